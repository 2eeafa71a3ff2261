-- The number that a run of regular bytes is. Own rule: the function that Numerals is proved
-- against.
use Rattle.std.specs.Prelude.{ℕ, ◌+◌, ◌==◌, Bool, true, false, ◌&&◌, ◌||◌, List, [], ◌∷◌, length, take, drop, Option}
use Rattle.std.specs.Prelude.{Some, None, if◌then◌else◌, nat_lt}
use Rattle.std.specs.List.{prefix_len}
use Rattle.ps_scan.specs.Characters.{is_digit}
use Rattle.ps_scan.specs.Integers.{are_digits, decimal_value, integer_numeral}
use Rattle.ps_scan.specs.Reals.{RealParts, is_power_mark, real_numeral}
use Rattle.ps_scan.specs.Radix.{is_base, are_digits_below, radix_value, radix_numeral}
use Rattle.ps_scan.specs.declared.numerals.Numeral.{Numeral}

-- plus or minus
abbrev pub is_sign : ℕ → Bool
is_sign c = c == 43 || c == 45

-- a run without its sign
abbrev pub unsigned : List ℕ → List ℕ
unsigned [] = []
unsigned (c ∷ cs) = if is_sign c then cs else c ∷ cs

-- whether a run begins with a minus
abbrev pub is_minus : List ℕ → Bool
is_minus [] = false
is_minus (c ∷ cs) = c == 45

-- whether a run without its sign is digits, one at least
abbrev pub is_integer : List ℕ → Bool
is_integer run = are_digits (unsigned run)

-- the digits in front of a text
abbrev pub digits_in : List ℕ → List ℕ
digits_in text = take (prefix_len is_digit text) text

-- the text behind the digits in front
abbrev pub behind_digits : List ℕ → List ℕ
behind_digits text = drop (prefix_len is_digit text) text

-- whether the digits in front are a base, and `#` and digits below it stand behind them
abbrev pub is_radix_behind : List ℕ → List ℕ → Bool
is_radix_behind front [] = false
is_radix_behind front (c ∷ cs) = c == 35 && (is_base front && are_digits_below (decimal_value front) cs)

-- whether a run is a radix number
abbrev pub is_radix : List ℕ → Bool
is_radix run = is_radix_behind (digits_in run) (behind_digits run)

-- the base of a radix number
abbrev pub base_of : List ℕ → ℕ
base_of run = decimal_value (digits_in run)

-- the digits of a radix number, behind its base and `#`
abbrev pub radix_digits : List ℕ → List ℕ
radix_digits run = drop 1 (behind_digits run)

-- the digits behind a point, if one stands there
abbrev pub fraction_of : List ℕ → List ℕ
fraction_of [] = []
fraction_of (c ∷ cs) = if c == 46 then digits_in cs else []

-- the text behind a point and its digits, or all of it where no point stands there
abbrev pub behind_fraction : List ℕ → List ℕ
behind_fraction [] = []
behind_fraction (c ∷ cs) = if c == 46 then behind_digits cs else c ∷ cs

-- whether a text is an exponent or nothing
abbrev pub is_power : List ℕ → Bool
is_power [] = true
is_power (c ∷ cs) = is_power_mark c && are_digits (unsigned cs)

-- the digits of an exponent
abbrev pub power_digits : List ℕ → List ℕ
power_digits [] = []
power_digits (c ∷ cs) = unsigned cs

-- whether an exponent has a minus
abbrev pub power_minus : List ℕ → Bool
power_minus [] = false
power_minus (c ∷ cs) = is_minus cs

-- the parts of a real by its sign, its first digits and what stands behind them
abbrev pub parts_from : Bool → List ℕ → List ℕ → RealParts
parts_from negative whole behind =
    record {
      negative = negative;
      whole = whole;
      fraction = fraction_of behind;
      minus = power_minus (behind_fraction behind);
      power = power_digits (behind_fraction behind);
    }

-- the parts of a run that is a real
unfoldable pub parts_of : List ℕ → RealParts
parts_of run = parts_from (is_minus run) (digits_in (unsigned run)) (behind_digits (unsigned run))

-- whether a digit stands before or behind the point, and behind them an exponent or nothing
abbrev pub is_real_from : List ℕ → List ℕ → Bool
is_real_from whole behind =
    nat_lt 0 (length whole + length (fraction_of behind)) && is_power (behind_fraction behind)

-- whether a run that is no integer is a real
abbrev pub is_real : List ℕ → Bool
is_real run = is_real_from (digits_in (unsigned run)) (behind_digits (unsigned run))

-- the number that a run is, or that it passes a limit; none where it has the form of no number
unfoldable pub numeral_of : List ℕ → Option Numeral
numeral_of run =
    if is_integer run then Some (integer_numeral (is_minus run) (decimal_value (unsigned run)))
    else if is_radix run then Some (radix_numeral (radix_value (base_of run) (radix_digits run)))
    else if is_real run then Some (real_numeral (parts_of run))
    else None
