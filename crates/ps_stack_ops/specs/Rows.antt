-- The operators on the operand stack (PostScript Language Reference, third edition, 8.1 Operator
-- Summary: Operand Stack Manipulation Operators). Each row goes by cases on the operands, the top
-- first; its refusals come in the order of the cases: too few operands, their types, the conditions
-- of the row, stackoverflow.
use Rattle.std.specs.Prelude.{ℕ, ℤ, pos, ◌+◌, ◌==◌, List, [], ◌∷◌, ◌++◌, length, take, drop, slice_get, unsigned_abs}
use Rattle.std.specs.Prelude.{int_lt, nat_le, nat_lt, Option, Some, None, Result, if◌then◌else◌}
use Rattle.std.specs.Int.{int_rem_euclid}
use Rattle.std.specs.List.{position_from}
use Rattle.press_fault.specs.declared.names.PsName.{PsName}
use Rattle.press_fault.specs.declared.names.PsName.TheVariants.{StackUnderflow, StackOverflow, TypeCheck, RangeCheck}
use Rattle.press_fault.specs.declared.names.PsName.TheVariants.{UnmatchedMark, InvalidAccess, LimitCheck}
use Rattle.ps_store.specs.declared.obj.Obj.{Obj}
use Rattle.ps_store.specs.declared.obj.Obj.TheVariants.{Int, Text, Array, Dict, Mark as AMark}
use Rattle.ps_store.specs.declared.obj.Part.{Part}
use Rattle.ps_store.specs.declared.oper.StackOp.{StackOp}
use Rattle.ps_store.specs.declared.oper.StackOp.TheVariants.{Pop, Exch, Dup, Clear, Count, Copy, Index, Roll, Mark}
use Rattle.ps_store.specs.declared.oper.StackOp.TheVariants.{OpenArray, OpenDict, Cleartomark, Counttomark, Add, Sub}
use Rattle.ps_store.specs.declared.oper.StackOp.TheVariants.{Mul, Div, Idiv, Mod, Neg, Abs, Ceiling, Floor, Round}
use Rattle.ps_store.specs.declared.oper.StackOp.TheVariants.{Truncate, Sqrt, Sin, Cos, Cvi, Cvr, Eq, Ne, Gt, Ge, Lt, Le}
use Rattle.ps_store.specs.declared.oper.StackOp.TheVariants.{And, Or, Xor, Not, Bitshift}
use Rattle.ps_store.specs.Store.{StoreValue}
use Rattle.ps_store.specs.Desk.{OperandsAndStore}
use Rattle.ps_store.specs.Stack.{rolled, is_mark}
use Rattle.ps_store.specs.Copying.{copied_part, copied_entries}
use Rattle.ps_store.specs.Outcome.{Outcome, Goes, Refuses, pushed, with_value}
use Rattle.ps_stack_ops.specs.Arithmetic.{add_value, sub_value, mul_value, div_value, idiv_value, mod_value, neg_value}
use Rattle.ps_stack_ops.specs.Arithmetic.{abs_value, ceiling_value, floor_value, round_value, truncate_value}
use Rattle.ps_stack_ops.specs.Arithmetic.{sqrt_value, sin_value, cos_value, cvi_value, cvr_value}
use Rattle.ps_stack_ops.specs.Comparison.{eq_value, ne_value, gt_value, ge_value, lt_value, le_value}
use Rattle.ps_stack_ops.specs.Logic.{and_value, or_value, xor_value, not_value, bitshift_value}

-- an operator that puts a value in the place of one operand, or its refusal; without an operand it is stackunderflow
abbrev pub of_one : (Obj → Result Obj PsName) → List Obj → Outcome (List Obj)
of_one value (a ∷ rest) = with_value (value a) rest
of_one value [] = Refuses StackUnderflow

-- an operator that puts a value in the place of two operands, the lower one first; too few are stackunderflow
abbrev pub of_two : (Obj → Obj → Result Obj PsName) → List Obj → Outcome (List Obj)
of_two value (b ∷ a ∷ rest) = with_value (value a b) rest
of_two value operands = Refuses StackUnderflow

-- `pop`: without the top operand
abbrev pub pop_row : List Obj → Outcome (List Obj)
pop_row (a ∷ rest) = Goes rest
pop_row [] = Refuses StackUnderflow

-- `exch`: the top two operands changed about
abbrev pub exch_row : List Obj → Outcome (List Obj)
exch_row (b ∷ a ∷ rest) = Goes (a ∷ b ∷ rest)
exch_row operands = Refuses StackUnderflow

-- `dup`: the top operand once more
abbrev pub dup_row : List Obj → Outcome (List Obj)
dup_row (a ∷ rest) = pushed a (a ∷ rest)
dup_row [] = Refuses StackUnderflow

-- `count`: how many operands there are, as an integer on top
abbrev pub count_row : List Obj → Outcome (List Obj)
count_row operands = pushed (Int (pos (length operands))) operands

-- what an operator does that leaves the store as it is
abbrev pub on_operands : StoreValue → Outcome (List Obj) → Outcome OperandsAndStore
on_operands store (Goes operands) = Goes (record { operands = operands; store = store })
on_operands store (Refuses name) = Refuses name

-- the top n of the operands once more: a negative n is rangecheck, then too few are stackunderflow, then stackoverflow
abbrev pub copied : ℤ → List Obj → Outcome (List Obj)
copied n operands =
    if int_lt n (pos 0) then Refuses RangeCheck
    else (if nat_lt (length operands) (unsigned_abs n) then Refuses StackUnderflow
    else (if nat_le (length operands + unsigned_abs n) 500 then Goes (take (unsigned_abs n) operands ++ operands)
    else Refuses StackOverflow))

-- an operand that was found, on top of the others, else stackunderflow
abbrev pub again : Option Obj → List Obj → Outcome (List Obj)
again (Some o) operands = Goes (o ∷ operands)
again None operands = Refuses StackUnderflow

-- `index`: in place of a number the operand so far down, where 0 is the next; first rangecheck, then stackunderflow
abbrev pub index_row : List Obj → Outcome (List Obj)
index_row (Int n ∷ rest) = if int_lt n (pos 0) then Refuses RangeCheck else again (slice_get rest (unsigned_abs n)) rest
index_row (a ∷ rest) = Refuses TypeCheck
index_row [] = Refuses StackUnderflow

-- the top n of the operands turned j places round, where for 1 the top one goes below the others
abbrev pub turned : ℕ → ℤ → List Obj → List Obj
turned n j operands = if n == 0 then operands else rolled n (unsigned_abs (int_rem_euclid j (pos n))) operands

-- `roll`: as many operands as the lower number says turned by the upper one; first rangecheck, then stackunderflow
abbrev pub roll_row : List Obj → Outcome (List Obj)
roll_row (Int j ∷ Int n ∷ rest) =
    if int_lt n (pos 0) then Refuses RangeCheck
    else (if nat_lt (length rest) (unsigned_abs n) then Refuses StackUnderflow
    else Goes (turned (unsigned_abs n) j rest))
roll_row (b ∷ a ∷ rest) = Refuses TypeCheck
roll_row operands = Refuses StackUnderflow

-- so many of the first places of a part
abbrev pub front_of : Part → ℕ → Part
front_of p n = record { id = p.id; start = p.start; len = n }

-- the store after a copy, limitcheck where a limit refuses it
abbrev pub or_limit : Option StoreValue → Outcome StoreValue
or_limit (Some store) = Goes store
or_limit None = Refuses LimitCheck

-- `copy` of dictionaries: into systemdict it is invalidaccess, and a limit is limitcheck
abbrev pub entries_copied : StoreValue → ℕ → ℕ → Outcome StoreValue
entries_copied s from to = if to == 0 then Refuses InvalidAccess else or_limit (copied_entries s from to)

-- operands, with the store of an outcome
abbrev pub with_operands : List Obj → Outcome StoreValue → Outcome OperandsAndStore
with_operands operands (Goes store) = Goes (record { operands = operands; store = store })
with_operands operands (Refuses name) = Refuses name

-- `copy` of operands by their number, or of a composite into another of its kind, the one on top: of arrays and strings
-- as many of its first places as the other has are left, and fewer places are rangecheck; a dictionary is left whole;
-- one composite alone is stackunderflow, and all else typecheck
abbrev pub copy_row : List Obj → StoreValue → Outcome OperandsAndStore
copy_row (Int n ∷ rest) s = on_operands s (copied n rest)
copy_row (Array b y ∷ Array a x ∷ rest) s =
    if nat_lt b.len a.len then Refuses RangeCheck
    else Goes (record { operands = Array (front_of b a.len) y ∷ rest; store = copied_part s a b })
copy_row (Text b ∷ Text a ∷ rest) s =
    if nat_lt b.len a.len then Refuses RangeCheck
    else Goes (record { operands = Text (front_of b a.len) ∷ rest; store = copied_part s a b })
copy_row (Dict b ∷ Dict a ∷ rest) s = with_operands (Dict b ∷ rest) (entries_copied s a b)
copy_row (Array b y ∷ []) s = Refuses StackUnderflow
copy_row (Text b ∷ []) s = Refuses StackUnderflow
copy_row (Dict b ∷ []) s = Refuses StackUnderflow
copy_row (b ∷ rest) s = Refuses TypeCheck
copy_row [] s = Refuses StackUnderflow

-- the operands without those above a mark and the mark, else unmatchedmark
abbrev pub cleared : Option ℕ → List Obj → Outcome (List Obj)
cleared (Some depth) operands = Goes (drop (depth + 1) operands)
cleared None operands = Refuses UnmatchedMark

-- `cleartomark`: the operands without all down to the topmost mark, and that
abbrev pub cleartomark_row : List Obj → Outcome (List Obj)
cleartomark_row operands = cleared (position_from is_mark 0 operands) operands

-- how many operands stand above a mark, on top of them, else unmatchedmark
abbrev pub counted : Option ℕ → List Obj → Outcome (List Obj)
counted (Some depth) operands = pushed (Int (pos depth)) operands
counted None operands = Refuses UnmatchedMark

-- `counttomark`: how many operands stand above the topmost mark, as an integer on top
abbrev pub counttomark_row : List Obj → Outcome (List Obj)
counttomark_row operands = counted (position_from is_mark 0 operands) operands

-- what each operator of this crate does to operands and store, or its refusal; `mark`, `[` and `<<` push the same mark
unfoldable pub stack_row : StackOp → List Obj → StoreValue → Outcome OperandsAndStore
stack_row Pop operands store = on_operands store (pop_row operands)
stack_row Exch operands store = on_operands store (exch_row operands)
stack_row Dup operands store = on_operands store (dup_row operands)
stack_row Clear operands store = Goes (record { operands = []; store = store })
stack_row Count operands store = on_operands store (count_row operands)
stack_row Copy operands store = copy_row operands store
stack_row Index operands store = on_operands store (index_row operands)
stack_row Roll operands store = on_operands store (roll_row operands)
stack_row Mark operands store = on_operands store (pushed AMark operands)
stack_row OpenArray operands store = on_operands store (pushed AMark operands)
stack_row OpenDict operands store = on_operands store (pushed AMark operands)
stack_row Cleartomark operands store = on_operands store (cleartomark_row operands)
stack_row Counttomark operands store = on_operands store (counttomark_row operands)
stack_row Add operands store = on_operands store (of_two add_value operands)
stack_row Sub operands store = on_operands store (of_two sub_value operands)
stack_row Mul operands store = on_operands store (of_two mul_value operands)
stack_row Div operands store = on_operands store (of_two div_value operands)
stack_row Idiv operands store = on_operands store (of_two idiv_value operands)
stack_row Mod operands store = on_operands store (of_two mod_value operands)
stack_row Neg operands store = on_operands store (of_one neg_value operands)
stack_row Abs operands store = on_operands store (of_one abs_value operands)
stack_row Ceiling operands store = on_operands store (of_one ceiling_value operands)
stack_row Floor operands store = on_operands store (of_one floor_value operands)
stack_row Round operands store = on_operands store (of_one round_value operands)
stack_row Truncate operands store = on_operands store (of_one truncate_value operands)
stack_row Sqrt operands store = on_operands store (of_one sqrt_value operands)
stack_row Sin operands store = on_operands store (of_one sin_value operands)
stack_row Cos operands store = on_operands store (of_one cos_value operands)
stack_row Cvi operands store = on_operands store (of_one cvi_value operands)
stack_row Cvr operands store = on_operands store (of_one cvr_value operands)
stack_row Eq operands store = on_operands store (of_two (eq_value store) operands)
stack_row Ne operands store = on_operands store (of_two (ne_value store) operands)
stack_row Gt operands store = on_operands store (of_two (gt_value store) operands)
stack_row Ge operands store = on_operands store (of_two (ge_value store) operands)
stack_row Lt operands store = on_operands store (of_two (lt_value store) operands)
stack_row Le operands store = on_operands store (of_two (le_value store) operands)
stack_row And operands store = on_operands store (of_two and_value operands)
stack_row Or operands store = on_operands store (of_two or_value operands)
stack_row Xor operands store = on_operands store (of_two xor_value operands)
stack_row Not operands store = on_operands store (of_one not_value operands)
stack_row Bitshift operands store = on_operands store (of_two bitshift_value operands)
