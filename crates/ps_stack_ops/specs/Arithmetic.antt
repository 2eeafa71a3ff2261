-- Arithmetic and mathematical operators (PostScript Language Reference, third edition, 8.1 Operator
-- Summary, and each operator's page in 8.2), from the lower operand to the one on top.
-- Own rules: an integer stays an integer, so a result out of its range is undefinedresult and no
-- real number; real numbers count 1/65536, and a result out of their range is undefinedresult too.
use Rattle.std.specs.Prelude.{ℤ, pos, neg_ℤ, ◌+ℤ◌, ◌-ℤ◌, ◌*ℤ◌, unsigned_abs, int_lt, Option, Some, None, Result, Ok}
use Rattle.std.specs.Prelude.{Err, if◌then◌else◌}
use Rattle.press_nums.specs.Whole.{whole_of, whole_quotient_of, whole_rest_of}
use Rattle.press_nums.specs.Fix.{fix_of, product_of, quotient_of, ceiling_of, floor_of, nearest_of, truncation_of}
use Rattle.press_nums.specs.Fix.{fix_root_of}
use Rattle.std.specs.Option.{option_map}
use Rattle.geo_matrix.specs.Sine.{sine_of, cosine_of}
use Rattle.press_fault.specs.declared.names.PsName.{PsName}
use Rattle.press_fault.specs.declared.names.PsName.TheVariants.{TypeCheck, RangeCheck}
use Rattle.ps_store.specs.declared.obj.Obj.{Obj}
use Rattle.ps_store.specs.declared.obj.Obj.TheVariants.{Int, Real}
use Rattle.ps_store.specs.Numbers.{raw_of}
use Rattle.ps_stack_ops.specs.Numbers.{pair_of, of_pair, integer, real}

-- the sum, an integer where both operands are; out of range is undefinedresult
unfoldable pub add_value : Obj → Obj → Result Obj PsName
add_value a b = of_pair (λ x y. whole_of (x +ℤ y)) (λ x y. fix_of (x +ℤ y)) (pair_of a b)

-- the difference, the lower operand less the one on top; out of range is undefinedresult
unfoldable pub sub_value : Obj → Obj → Result Obj PsName
sub_value a b = of_pair (λ x y. whole_of (x -ℤ y)) (λ x y. fix_of (x -ℤ y)) (pair_of a b)

-- the product, of reals rounded once; out of range is undefinedresult
unfoldable pub mul_value : Obj → Obj → Result Obj PsName
mul_value a b = of_pair (λ x y. whole_of (x *ℤ y)) product_of (pair_of a b)

-- a real quotient by the raw values of both, rounded once; undefinedresult by zero and out of range
abbrev pub quotient : Option ℤ → Option ℤ → Result Obj PsName
quotient (Some a) (Some b) = real (quotient_of a b)
quotient a b = Err TypeCheck

-- the lower operand by the one on top, as a real; undefinedresult by zero and out of range
unfoldable pub div_value : Obj → Obj → Result Obj PsName
div_value a b = quotient (raw_of a) (raw_of b)

-- the quotient of two integers, truncated to zero; undefinedresult by zero and out of range
unfoldable pub idiv_value : Obj → Obj → Result Obj PsName
idiv_value (Int a) (Int b) = integer (whole_quotient_of a b)
idiv_value a b = Err TypeCheck

-- what that division leaves, with the sign of the lower operand; undefinedresult by zero
unfoldable pub mod_value : Obj → Obj → Result Obj PsName
mod_value (Int a) (Int b) = integer (whole_rest_of a b)
mod_value a b = Err TypeCheck

-- an integer or a real with the other sign; out of range is undefinedresult
unfoldable pub neg_value : Obj → Result Obj PsName
neg_value (Int n) = integer (whole_of (neg_ℤ n))
neg_value (Real x) = real (fix_of (neg_ℤ x))
neg_value o = Err TypeCheck

-- an integer or a real without its sign; out of range is undefinedresult
unfoldable pub abs_value : Obj → Result Obj PsName
abs_value (Int n) = integer (whole_of (pos (unsigned_abs n)))
abs_value (Real x) = real (fix_of (pos (unsigned_abs x)))
abs_value o = Err TypeCheck

-- an integer as it is, and of a real the whole real at or above it; out of range is undefinedresult
unfoldable pub ceiling_value : Obj → Result Obj PsName
ceiling_value (Int n) = Ok (Int n)
ceiling_value (Real x) = real (fix_of (ceiling_of x *ℤ pos 65536))
ceiling_value o = Err TypeCheck

-- an integer as it is, and of a real the whole real at or below it
unfoldable pub floor_value : Obj → Result Obj PsName
floor_value (Int n) = Ok (Int n)
floor_value (Real x) = Ok (Real (floor_of x *ℤ pos 65536))
floor_value o = Err TypeCheck

-- an integer as it is, and of a real the nearest whole real, a tie going up; out of range is undefinedresult
unfoldable pub round_value : Obj → Result Obj PsName
round_value (Int n) = Ok (Int n)
round_value (Real x) = real (fix_of (nearest_of x *ℤ pos 65536))
round_value o = Err TypeCheck

-- an integer as it is, and of a real the whole real without its fraction, towards zero
unfoldable pub truncate_value : Obj → Result Obj PsName
truncate_value (Int n) = Ok (Int n)
truncate_value (Real x) = Ok (Real (truncation_of x *ℤ pos 65536))
truncate_value o = Err TypeCheck

-- the square root as a real by a raw value, rounded down; rangecheck below 0
abbrev pub square_root : Option ℤ → Result Obj PsName
square_root (Some x) = if int_lt x (pos 0) then Err RangeCheck else Ok (Real (fix_root_of x))
square_root None = Err TypeCheck

-- the square root as a real, rounded down; rangecheck below 0
unfoldable pub sqrt_value : Obj → Result Obj PsName
sqrt_value o = square_root (raw_of o)

-- the real of a raw value, typecheck where there is no number
abbrev pub as_real : Option ℤ → Result Obj PsName
as_real (Some x) = Ok (Real x)
as_real None = Err TypeCheck

-- the sine of so many degrees, as a real
unfoldable pub sin_value : Obj → Result Obj PsName
sin_value o = as_real (option_map sine_of (raw_of o))

-- the cosine of so many degrees, as a real
unfoldable pub cos_value : Obj → Result Obj PsName
cos_value o = as_real (option_map cosine_of (raw_of o))

-- a number as an integer, truncated to zero
unfoldable pub cvi_value : Obj → Result Obj PsName
cvi_value (Int n) = Ok (Int n)
cvi_value (Real x) = Ok (Int (truncation_of x))
cvi_value o = Err TypeCheck

-- a number as a real
unfoldable pub cvr_value : Obj → Result Obj PsName
cvr_value o = as_real (raw_of o)
