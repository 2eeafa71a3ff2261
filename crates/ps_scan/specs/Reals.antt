-- Reals (PostScript Language Reference, third edition, 3.2 Syntax, Numbers). Own rules: how many digits a
-- mantissa and an exponent may have, and that a real is rounded to 1/65536 once.
use Rattle.std.specs.Prelude.{◌≡◌, ℕ, ◌+◌, ◌<◌, ◌==◌, ℤ, pos, ◌-ℤ◌, Bool, true, false, ◌&&◌, ◌||◌, List, [], ◌∷◌, ◌++◌}
use Rattle.std.specs.Prelude.{length, Option, Some, None, if◌then◌else◌, nat_le}
use Rattle.std.specs.List.{list_all}
use Rattle.press_nums.specs.Decimal.{signed, decimal_of}
use Rattle.ps_scan.specs.Characters.{is_digit}
use Rattle.ps_scan.specs.Integers.{Sign, are_digits, decimal_value}
use Rattle.ps_scan.specs.declared.numerals.Numeral.{Numeral}
use Rattle.ps_scan.specs.declared.numerals.Numeral.TheVariants.{Decimal, TooGreat}

-- what a real is written with: its sign, the digits before and behind its point, and its exponent's
-- sign and digits
pub record RealParts : Type 0 where
  pub negative : Bool
  pub whole : List ℕ
  pub fraction : List ℕ
  pub minus : Bool
  pub power : List ℕ

-- a point and the digits behind it, or nothing
pub data DecimalPoint : List ℕ → List ℕ → Type 0 where
  NoPoint : DecimalPoint [] []
  APoint : (fraction : List ℕ) → list_all is_digit fraction ≡ true → DecimalPoint (46 ∷ fraction) fraction

-- e or E
abbrev pub is_power_mark : ℕ → Bool
is_power_mark c = c == 101 || c == 69

-- an exponent, or nothing: e or E, an optional sign, and digits
pub data Exponent : List ℕ → Bool → List ℕ → Type 0 where
  NoPower : Exponent [] false []
  APower : (mark : ℕ) (sign digits : List ℕ) (minus : Bool)
      → is_power_mark mark ≡ true → Sign sign minus → are_digits digits ≡ true
      → Exponent (mark ∷ (sign ++ digits)) minus digits

-- digits with a point among, before or behind them and perhaps an exponent, or an integer with an
-- exponent
pub record IsReal (run : List ℕ) (parts : RealParts) : Type 0 where
  pub sign : List ℕ
  pub point : List ℕ
  pub exponent : List ℕ
  pub joined : run ≡ sign ++ (parts.whole ++ (point ++ exponent))
  pub sign_is : Sign sign parts.negative
  pub whole_is : list_all is_digit parts.whole ≡ true
  pub point_is : DecimalPoint point parts.fraction
  pub exponent_is : Exponent exponent parts.minus parts.power
  pub some_digit : 0 < length parts.whole + length parts.fraction
  pub no_integer : 0 < length point + length exponent

-- at most 30 digits before and behind the point together, and 4 in the exponent, zeros counted
abbrev pub is_short : RealParts → Bool
is_short parts = nat_le (length parts.whole + length parts.fraction) 30 && nat_le (length parts.power) 4

-- the raw value: the exact value in 1/65536, rounded once; None where it is out of range
abbrev pub raw_of : RealParts → Option ℤ
raw_of parts =
    decimal_of parts.negative (decimal_value (parts.whole ++ parts.fraction))
    (signed parts.minus (decimal_value parts.power) -ℤ pos (length parts.fraction))

-- the real of a raw value, or that it passes a limit
abbrev pub decimal_numeral : Option ℤ → Numeral
decimal_numeral None = TooGreat
decimal_numeral (Some raw) = Decimal raw

-- the real of its parts, where it is within both limits
abbrev pub real_numeral : RealParts → Numeral
real_numeral parts = if is_short parts then decimal_numeral (raw_of parts) else TooGreat
