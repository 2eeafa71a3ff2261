-- Integers in decimal (PostScript Language Reference, third edition, 3.2 Syntax, Numbers). Own rule: 32 bits.
use Rattle.std.specs.Prelude.{◌≡◌, ℕ, ◌+◌, ◌*◌, ◌-◌, ◌^◌, Bool, true, false, ◌&&◌, List, [], ◌∷◌, ◌++◌, length}
use Rattle.std.specs.Prelude.{if◌then◌else◌, nat_le, nat_lt}
use Rattle.std.specs.List.{list_all, fold}
use Rattle.press_nums.specs.Decimal.{signed}
use Rattle.ps_scan.specs.Characters.{is_digit}
use Rattle.ps_scan.specs.declared.numerals.Numeral.{Numeral}
use Rattle.ps_scan.specs.declared.numerals.Numeral.TheVariants.{Whole, TooGreat}

-- the number that decimal digits write
abbrev pub decimal_value : List ℕ → ℕ
decimal_value digits = fold (λ value c. 10 * value + (c - 48)) 0 digits

-- one digit at least, and nothing else
abbrev pub are_digits : List ℕ → Bool
are_digits digits = nat_lt 0 (length digits) && list_all is_digit digits

-- a plus, a minus or no sign, and whether it is a minus
pub data Sign : List ℕ → Bool → Type 0 where
  NoSign : Sign [] false
  Plus : Sign (43 ∷ []) false
  Minus : Sign (45 ∷ []) true

-- an optional sign, and digits, one at least
pub record IsInteger (run : List ℕ) (negative : Bool) (digits : List ℕ) : Type 0 where
  pub sign : List ℕ
  pub sign_is : Sign sign negative
  pub joined : run ≡ sign ++ digits
  pub digits_are : are_digits digits ≡ true

-- whether a magnitude with its sign is from -2147483648 to 2147483647
abbrev pub fits_int : Bool → ℕ → Bool
fits_int negative n = if negative then nat_le n (2 ^ 31) else nat_lt n (2 ^ 31)

-- the integer from -2147483648 to 2147483647, or that it passes a limit
abbrev pub integer_numeral : Bool → ℕ → Numeral
integer_numeral negative n = if fits_int negative n then Whole (signed negative n) else TooGreat
