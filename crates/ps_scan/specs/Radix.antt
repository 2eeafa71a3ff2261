-- Radix numbers (PostScript Language Reference, third edition, 3.2 Syntax, Numbers).
use Rattle.std.specs.Prelude.{◌≡◌, ℕ, ◌+◌, ◌*◌, ◌^◌, ℤ, pos, ◌-ℤ◌, Bool, true, ◌&&◌, ◌||◌, List, ◌∷◌, ◌++◌, length}
use Rattle.std.specs.Prelude.{if◌then◌else◌, nat_le, nat_lt}
use Rattle.std.specs.List.{list_all, fold}
use Rattle.ps_scan.specs.Characters.{is_digit, is_letter, digit_value}
use Rattle.ps_scan.specs.Integers.{decimal_value}
use Rattle.ps_scan.specs.declared.numerals.Numeral.{Numeral}
use Rattle.ps_scan.specs.declared.numerals.Numeral.TheVariants.{Whole, TooGreat}

-- one or two decimal digits, for a number from 2 to 36
abbrev pub is_base : List ℕ → Bool
is_base front =
    nat_lt 0 (length front) && nat_le (length front) 2 && list_all is_digit front
    && nat_le 2 (decimal_value front) && nat_le (decimal_value front) 36

-- a digit or letter below the base
abbrev pub is_digit_below : ℕ → ℕ → Bool
is_digit_below base c = (is_digit c || is_letter c) && nat_lt (digit_value c) base

-- one digit or letter at least, each below the base, and nothing else
abbrev pub are_digits_below : ℕ → List ℕ → Bool
are_digits_below base digits = nat_lt 0 (length digits) && list_all (is_digit_below base) digits

-- a base, a number sign, and digits below the base
pub record IsRadix (run : List ℕ) (base : ℕ) (digits : List ℕ) : Type 0 where
  pub front : List ℕ
  pub joined : run ≡ front ++ (35 ∷ digits)
  pub base_is : is_base front ≡ true
  pub value : base ≡ decimal_value front
  pub digits_are : are_digits_below base digits ≡ true

-- the number that digits of a base write
abbrev pub radix_value : ℕ → List ℕ → ℕ
radix_value base digits = fold (λ value c. base * value + digit_value c) 0 digits

-- 32 bits as an integer: a number over 2147483647 stands for itself less 2^32
abbrev pub as_signed : ℕ → ℤ
as_signed n = if nat_le n 2147483647 then pos n else pos n -ℤ pos (2 ^ 32)

-- the integer of a radix number's value, or that it passes 4294967295
abbrev pub radix_numeral : ℕ → Numeral
radix_numeral n = if nat_le n 4294967295 then Whole (as_signed n) else TooGreat
