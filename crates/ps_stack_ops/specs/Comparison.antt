-- Comparison operators (PostScript Language Reference, third edition, 8.2 eq, ne, gt, ge, lt, le).
-- Numbers are equal by value, names and strings by their bytes, whatever their marks. Own rule:
-- composites are equal by identity, an array being a part of one, so two empty parts of an array
-- that start apart are different; objects of other kinds are different from each other.
use Rattle.std.specs.Prelude.{◌==◌, ◌&&◌, not, Bool, true, false, Result, Ok, Err}
use Rattle.std.specs.declared.cmp.Ordering.{Ordering}
use Rattle.std.specs.Ordering.{nat_cmp, int_cmp, int_eq, is_lt, is_le, is_gt, is_ge}
use Rattle.std.specs.Cmp.Lexicographic.{slice_cmp}
use Rattle.std.specs.Str.{bytes_eq}
use Rattle.std.specs.Bool.{beq}
use Rattle.press_fault.specs.declared.names.PsName.{PsName}
use Rattle.press_fault.specs.declared.names.PsName.TheVariants.{TypeCheck}
use Rattle.ps_store.specs.declared.obj.Obj.{Obj}
use Rattle.ps_store.specs.declared.obj.Obj.TheVariants.{Null, Mark, Bool as Truth, Int, Real, Name, Text, Array, Dict}
use Rattle.ps_store.specs.declared.obj.Obj.TheVariants.{Oper as Operator, File}
use Rattle.ps_store.specs.declared.obj.Part.{Part}
use Rattle.ps_store.specs.declared.oper.Oper.{Oper}
use Rattle.ps_store.specs.Operators.{number_of}
use Rattle.ps_store.specs.Store.{StoreValue, bytes_of}
use Rattle.ps_store.specs.Numbers.{raw_of_whole}

-- whether two parts are the same places of the same composite
abbrev pub same_part : Part → Part → Bool
same_part a b = a.id == b.id && (a.start == b.start && a.len == b.len)

-- whether two operators are one
unfoldable pub same_operator : Oper → Oper → Bool
same_operator a b = number_of a == number_of b

-- whether two objects are equal, whatever their marks: numbers and booleans by value, names and strings by their bytes,
-- arrays by their part, dictionaries and operators by identity, null, marks and the file always, and other kinds never
unfoldable pub equal : StoreValue → Obj → Obj → Bool
equal s (Int a) (Int b) = int_eq a b
equal s (Int a) (Real b) = int_eq (raw_of_whole a) b
equal s (Real a) (Int b) = int_eq a (raw_of_whole b)
equal s (Real a) (Real b) = int_eq a b
equal s (Name a x) (Name b y) = bytes_eq a b
equal s (Name a x) (Text b) = bytes_eq a (bytes_of s b)
equal s (Text a) (Name b y) = bytes_eq (bytes_of s a) b
equal s (Text a) (Text b) = bytes_eq (bytes_of s a) (bytes_of s b)
equal s (Truth a) (Truth b) = beq a b
equal s (Array a x) (Array b y) = same_part a b
equal s (Dict a) (Dict b) = a == b
equal s (Operator a) (Operator b) = same_operator a b
equal s Null Null = true
equal s Mark Mark = true
equal s File File = true
equal s a b = false

-- whether two objects are equal, as a boolean
abbrev pub eq_value : StoreValue → Obj → Obj → Result Obj PsName
eq_value s a b = Ok (Truth (equal s a b))

-- whether two objects aren't equal, as a boolean
abbrev pub ne_value : StoreValue → Obj → Obj → Result Obj PsName
ne_value s a b = Ok (Truth (not (equal s a b)))

-- the order of two numbers by value, or of two strings by the first bytes that differ, else by length; all other
-- objects are typecheck
unfoldable pub order_of : StoreValue → Obj → Obj → Result Ordering PsName
order_of s (Text a) (Text b) = Ok (slice_cmp nat_cmp (bytes_of s a) (bytes_of s b))
order_of s (Int a) (Int b) = Ok (int_cmp a b)
order_of s (Int a) (Real b) = Ok (int_cmp (raw_of_whole a) b)
order_of s (Real a) (Int b) = Ok (int_cmp a (raw_of_whole b))
order_of s (Real a) (Real b) = Ok (int_cmp a b)
order_of s a b = Err TypeCheck

-- a test of an order, as a boolean
abbrev pub tested : (Ordering → Bool) → Result Ordering PsName → Result Obj PsName
tested test (Ok order) = Ok (Truth (test order))
tested test (Err name) = Err name

-- whether the lower operand is greater than the one on top, as a boolean
abbrev pub gt_value : StoreValue → Obj → Obj → Result Obj PsName
gt_value s a b = tested is_gt (order_of s a b)

-- whether the lower operand is at least the one on top, as a boolean
abbrev pub ge_value : StoreValue → Obj → Obj → Result Obj PsName
ge_value s a b = tested is_ge (order_of s a b)

-- whether the lower operand is less than the one on top, as a boolean
abbrev pub lt_value : StoreValue → Obj → Obj → Result Obj PsName
lt_value s a b = tested is_lt (order_of s a b)

-- whether the lower operand is at most the one on top, as a boolean
abbrev pub le_value : StoreValue → Obj → Obj → Result Obj PsName
le_value s a b = tested is_le (order_of s a b)
