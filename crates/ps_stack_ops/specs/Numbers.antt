-- Numeric operands (PostScript Language Reference, third edition, 3.3 Data Types and Objects). Own
-- rule: a real number is given by its raw value, its count of 1/65536.
use Rattle.std.specs.Prelude.{ℤ, Option, Some, None, Result, Ok, Err}
use Rattle.press_fault.specs.declared.names.PsName.{PsName}
use Rattle.press_fault.specs.declared.names.PsName.TheVariants.{TypeCheck, UndefinedResult}
use Rattle.ps_store.specs.declared.obj.Obj.{Obj}
use Rattle.ps_store.specs.declared.obj.Obj.TheVariants.{Int, Real}
use Rattle.ps_store.specs.Numbers.{raw_of_whole}
use Rattle.ps_stack_ops.specs.declared.numbers.Pair.{Pair}
use Rattle.ps_stack_ops.specs.declared.numbers.Pair.TheVariants.{Wholes, Fixes}

-- two numbers as two integers where both are, or else as two reals; none where one is no number
abbrev pub pair_of : Obj → Obj → Option Pair
pair_of (Int a) (Int b) = Some (Wholes a b)
pair_of (Int a) (Real b) = Some (Fixes (raw_of_whole a) b)
pair_of (Real a) (Int b) = Some (Fixes a (raw_of_whole b))
pair_of (Real a) (Real b) = Some (Fixes a b)
pair_of a b = None

-- an integer in range, else undefinedresult
abbrev pub integer : Option ℤ → Result Obj PsName
integer (Some n) = Ok (Int n)
integer None = Err UndefinedResult

-- a real number in range, else undefinedresult
abbrev pub real : Option ℤ → Result Obj PsName
real (Some x) = Ok (Real x)
real None = Err UndefinedResult

-- a value that is an integer exactly where both operands are, else a real; typecheck where one is no number
abbrev pub of_pair : (ℤ → ℤ → Option ℤ) → (ℤ → ℤ → Option ℤ) → Option Pair → Result Obj PsName
of_pair wholes fixes (Some (Wholes a b)) = integer (wholes a b)
of_pair wholes fixes (Some (Fixes a b)) = real (fixes a b)
of_pair wholes fixes None = Err TypeCheck
