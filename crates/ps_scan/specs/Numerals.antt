-- Runs of regular bytes that are numbers (PostScript Language Reference, third edition, 3.2 Syntax,
-- Numbers).
use Rattle.std.specs.Prelude.{ℕ, Bool, List}
use Rattle.ps_scan.specs.Integers.{IsInteger, decimal_value, integer_numeral}
use Rattle.ps_scan.specs.Reals.{RealParts, IsReal, real_numeral}
use Rattle.ps_scan.specs.Radix.{IsRadix, radix_value, radix_numeral}
use Rattle.ps_scan.specs.declared.numerals.Numeral.{Numeral}

-- a run that has the form of a number, and the number, or that it passes a limit
pub data IsNumeral : List ℕ → Numeral → Type 0 where
  Integer : (run : List ℕ) (negative : Bool) (digits : List ℕ)
      → IsInteger run negative digits
      → IsNumeral run (integer_numeral negative (decimal_value digits))
  Real : (run : List ℕ) (parts : RealParts) → IsReal run parts → IsNumeral run (real_numeral parts)
  Radix : (run : List ℕ) (base : ℕ) (digits : List ℕ)
      → IsRadix run base digits
      → IsNumeral run (radix_numeral (radix_value base digits))
