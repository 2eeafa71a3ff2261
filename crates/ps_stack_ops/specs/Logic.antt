-- Logical and bitwise operators (PostScript Language Reference, third edition, 8.2 and, or, xor,
-- not, bitshift). Own rule: an integer stands for its 32 bits, so a left shift drops the bits that
-- leave them, a right shift brings zeros in, and a shift by 32 or more places gives 0.
use Rattle.std.specs.Prelude.{ℕ, suc, ℤ, pos, negsuc, ◌-◌, ◌*◌, ◌/◌, ◌%◌, ◌^◌, ◌&&◌, ◌||◌, not, bit_and, bit_or}
use Rattle.std.specs.Prelude.{bit_xor, nat_lt, Bool, Result, Ok, Err, if◌then◌else◌}
use Rattle.press_nums.specs.Whole.{bits_of, whole_of_bits}
use Rattle.press_fault.specs.declared.names.PsName.{PsName}
use Rattle.press_fault.specs.declared.names.PsName.TheVariants.{TypeCheck}
use Rattle.ps_store.specs.declared.obj.Obj.{Obj}
use Rattle.ps_store.specs.declared.obj.Obj.TheVariants.{Int, Bool as Truth}

-- of two booleans, or of the 32 bits of two integers, whether both are set; else typecheck
unfoldable pub and_value : Obj → Obj → Result Obj PsName
and_value (Truth a) (Truth b) = Ok (Truth (a && b))
and_value (Int a) (Int b) = Ok (Int (whole_of_bits (bit_and (bits_of a) (bits_of b))))
and_value a b = Err TypeCheck

-- of two booleans, or of the 32 bits of two integers, whether one or both are set; else typecheck
unfoldable pub or_value : Obj → Obj → Result Obj PsName
or_value (Truth a) (Truth b) = Ok (Truth (a || b))
or_value (Int a) (Int b) = Ok (Int (whole_of_bits (bit_or (bits_of a) (bits_of b))))
or_value a b = Err TypeCheck

-- whether exactly one of two booleans is true
abbrev pub differ : Bool → Bool → Bool
differ a b = if a then not b else b

-- of two booleans, or of the 32 bits of two integers, whether exactly one is set; else typecheck
unfoldable pub xor_value : Obj → Obj → Result Obj PsName
xor_value (Truth a) (Truth b) = Ok (Truth (differ a b))
xor_value (Int a) (Int b) = Ok (Int (whole_of_bits (bit_xor (bits_of a) (bits_of b))))
xor_value a b = Err TypeCheck

-- the other of a boolean, or of each of an integer's 32 bits; else typecheck
unfoldable pub not_value : Obj → Result Obj PsName
not_value (Truth a) = Ok (Truth (not a))
not_value (Int n) = Ok (Int (whole_of_bits (bit_xor (bits_of n) (2 ^ 32 - 1))))
not_value o = Err TypeCheck

-- 32 bits moved so many places to the left, or to the right where the number is negative: those that leave are dropped,
-- zeros come in, and 32 places or more give 0
abbrev pub shifted : ℕ → ℤ → ℕ
shifted bits (pos places) = if nat_lt places 32 then (bits * 2 ^ places) % 2 ^ 32 else 0
shifted bits (negsuc places) = if nat_lt (suc places) 32 then bits / 2 ^ suc places else 0

-- the lower operand's 32 bits moved so many places to the left, or to the right where the number is negative
unfoldable pub bitshift_value : Obj → Obj → Result Obj PsName
bitshift_value (Int n) (Int places) = Ok (Int (whole_of_bits (shifted (bits_of n) places)))
bitshift_value a b = Err TypeCheck
