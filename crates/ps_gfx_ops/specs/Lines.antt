-- Line parameters (PostScript Language Reference, third edition, 8.2 Operator Details: setlinewidth, setmiterlimit,
-- setlinecap, setlinejoin, setdash, currentlinewidth): enough operands, their types, and then what the parameter
-- allows. Own rule: each element of a dash array has to be a number before any length is asked.
use Rattle.std.specs.Prelude.{ℤ, pos, List, [], ◌∷◌, drop, map, Option, Some, None, Result, Ok, Err, if◌then◌else◌}
use Rattle.std.specs.List.{list_all}
use Rattle.press_fault.specs.declared.names.PsName.{PsName}
use Rattle.press_fault.specs.declared.names.PsName.TheVariants.{StackUnderflow, TypeCheck, RangeCheck, LimitCheck}
use Rattle.ps_store.specs.declared.obj.Obj.{Obj}
use Rattle.ps_store.specs.declared.obj.Obj.TheVariants.{Array, Int, Real}
use Rattle.ps_store.specs.Numbers.{raw_of}
use Rattle.ps_store.specs.Outcome.{Outcome, Goes, Refuses, pushed, or_range, or_undefined_result, or_refusal}
use Rattle.ps_store.specs.Store.{StoreValue, objects_of}
use Rattle.gfx_state.specs.declared.line_style.DashFault.{DashFault}
use Rattle.gfx_state.specs.declared.line_style.DashFault.TheVariants as OfDash
use Rattle.gfx_state.specs.Lines.{dash_fault}
use Rattle.gfx_state.specs.Graphics.{GfxValue, with_width, with_cap, with_join, with_miter, with_dash}
use Rattle.ps_gfx_ops.specs.Colours.{on_easel}
use Rattle.ps_gfx_ops.specs.Easel.{OperandsAndGraphics}
use Rattle.ps_gfx_ops.specs.Points.{one_number}
use Rattle.ps_gfx_ops.specs.Matrices.{is_number}

-- the integer that an object is, else typecheck
abbrev pub integer_or_type : Obj → Result ℤ PsName
integer_or_type (Int n) = Ok n
integer_or_type o = Err TypeCheck

-- the integer that the top operand is, else stackunderflow or typecheck
abbrev pub one_integer : List Obj → Result ℤ PsName
one_integer (o ∷ rest) = integer_or_type o
one_integer [] = Err StackUnderflow

-- the graphics state that a call answers, without the operator's one operand
abbrev pub without_one : List Obj → GfxValue → Outcome OperandsAndGraphics
without_one operands g = Goes (record { operands = drop 1 operands; graphics = g })

-- `setlinewidth`: a width that is out of range is undefinedresult
abbrev pub setlinewidth_row : List Obj → GfxValue → Outcome OperandsAndGraphics
setlinewidth_row operands g =
    or_refusal (one_number operands) (λ width. or_undefined_result (with_width g width) (without_one operands))

-- `setmiterlimit`: a limit below 1 is rangecheck
abbrev pub setmiterlimit_row : List Obj → GfxValue → Outcome OperandsAndGraphics
setmiterlimit_row operands g =
    or_refusal (one_number operands) (λ limit. or_range (with_miter g limit) (without_one operands))

-- `setlinecap`: a number that is no cap is rangecheck
abbrev pub setlinecap_row : List Obj → GfxValue → Outcome OperandsAndGraphics
setlinecap_row operands g =
    or_refusal (one_integer operands) (λ number. or_range (with_cap g number) (without_one operands))

-- `setlinejoin`: a number that is no join is rangecheck
abbrev pub setlinejoin_row : List Obj → GfxValue → Outcome OperandsAndGraphics
setlinejoin_row operands g =
    or_refusal (one_integer operands) (λ number. or_range (with_join g number) (without_one operands))

-- the operands of `setdash`: dashes and gaps in turn, and the offset
pub record DashOperands : Type 0 where
  pub lengths : List ℤ
  pub offset : ℤ

-- a raw value that there may be, else 0
abbrev pub raw_or_zero : Option ℤ → ℤ
raw_or_zero (Some raw) = raw
raw_or_zero None = pos 0

-- the raw value of an object that is a number, else 0
abbrev pub number_in : Obj → ℤ
number_in o = raw_or_zero (raw_of o)

-- the numbers that objects are, where each is one
abbrev pub lengths_of : List Obj → Option (List ℤ)
lengths_of objects = if list_all is_number objects then Some (map number_in objects) else None

-- lengths and an offset, where all are numbers, else typecheck
abbrev pub dash_or_type : Option (List ℤ) → Option ℤ → Result DashOperands PsName
dash_or_type (Some lengths) (Some offset) = Ok (record { lengths = lengths; offset = offset })
dash_or_type lengths offset = Err TypeCheck

-- the lengths and the offset that the top two operands are, the offset on top, else stackunderflow or typecheck
abbrev pub dash_operands : List Obj → StoreValue → Result DashOperands PsName
dash_operands (offset ∷ Array p x ∷ rest) s = dash_or_type (lengths_of (objects_of s p)) (raw_of offset)
dash_operands (offset ∷ o ∷ rest) s = Err TypeCheck
dash_operands operands s = Err StackUnderflow

-- the error of the language that a refusal of dashes is; out of memory, which no definition names, counts as limitcheck
abbrev pub dash_error : DashFault → PsName
dash_error OfDash.RangeCheck = RangeCheck
dash_error OfDash.LimitCheck = LimitCheck
dash_error OfDash.NoMemory = LimitCheck

-- what goes on where dashes aren't refused
abbrev pub unless_refused : Option DashFault → Outcome OperandsAndGraphics → Outcome OperandsAndGraphics
unless_refused None go = go
unless_refused (Some fault) go = Refuses (dash_error fault)

-- `setdash`: the dashes and the offset by the operands, unless the lengths are refused
abbrev pub setdash_row : List Obj → StoreValue → GfxValue → Outcome OperandsAndGraphics
setdash_row operands s g =
    or_refusal (dash_operands operands s) (λ d. unless_refused (dash_fault d.lengths)
    (Goes (record { operands = drop 2 operands; graphics = with_dash g d.lengths d.offset })))

-- `currentlinewidth`: a real number on top, where there is room for one, else stackoverflow
abbrev pub currentlinewidth_row : List Obj → GfxValue → Outcome OperandsAndGraphics
currentlinewidth_row operands g = on_easel g (pushed (Real g.state.line.width) operands)
