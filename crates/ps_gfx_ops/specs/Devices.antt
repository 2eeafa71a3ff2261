-- Page devices (PostScript Language Reference, third edition, 6.1 Using Page Devices, 8.2 Operator Details:
-- setpagedevice). Own rules: of the dictionary PageSize alone is read; a side is rounded to whole dots, one at least;
-- each element has to be a number before their number is asked; and the saved states stay, with the matrix of the old
-- page.
use Rattle.std.specs.Prelude.{ℕ, ℤ, pos, ◌*◌, ◌*ℤ◌, int_lt, unsigned_abs, nat_le, max, Bool, ◌&&◌, List, [], ◌∷◌, drop}
use Rattle.std.specs.Prelude.{codes, Option, Some, None, Result, Ok, Err, if◌then◌else◌}
use Rattle.std.specs.List.{list_all}
use Rattle.press_nums.specs.Rounding.{div_round}
use Rattle.press_fault.specs.declared.names.PsName.{PsName}
use Rattle.press_fault.specs.declared.names.PsName.TheVariants.{StackUnderflow, TypeCheck, RangeCheck}
use Rattle.press_fault.specs.declared.names.PsName.TheVariants.{ConfigurationError}
use Rattle.geo_matrix.specs.Places.{RealPointValue}
use Rattle.ps_store.specs.declared.obj.Obj.{Obj}
use Rattle.ps_store.specs.declared.obj.Obj.TheVariants.{Array, Dict}
use Rattle.ps_store.specs.declared.key.Key.TheVariants.{Named}
use Rattle.ps_store.specs.Numbers.{raw_of}
use Rattle.ps_store.specs.Outcome.{Outcome, Goes, or_refusal}
use Rattle.ps_store.specs.Store.{StoreValue, objects_of, found}
use Rattle.gfx_state.specs.Graphics.{GfxValue, PageSize, resized}
use Rattle.ps_gfx_ops.specs.declared.devices.PageDots.{PageDots}
use Rattle.ps_gfx_ops.specs.Easel.{OperandsAndGraphics}
use Rattle.ps_gfx_ops.specs.Points.{point_or_type}
use Rattle.ps_gfx_ops.specs.Matrices.{is_number}

-- the dots of a side of so many points, a point being 1/72 inch; `res` dots are an inch
abbrev pub side_of : ℕ → ℤ → ℕ
side_of res raw = max 1 (unsigned_abs (div_round (raw *ℤ pos res) (pos 4718592)))

-- whether a page of so many dots is within the limits: 16,384 a side, and 67,108,864 in all
abbrev pub is_page : ℕ → ℕ → Bool
is_page width height = nat_le width 16384 && nat_le height 16384 && nat_le (width * height) 67108864

-- a size of so many dots, within the limits, else configurationerror
abbrev pub page_or_configuration : ℕ → ℕ → Result PageDots PsName
page_or_configuration width height =
    if is_page width height then Ok (record { width = width; height = height }) else Err ConfigurationError

-- the size of a page whose sides are so many points, each above 0
abbrev pub dots_of_sides : ℕ → RealPointValue → Result PageDots PsName
dots_of_sides res sides =
    if int_lt (pos 0) sides.x && int_lt (pos 0) sides.y
    then page_or_configuration (side_of res sides.x) (side_of res sides.y)
    else Err ConfigurationError

-- two objects as the two sides, else typecheck; another number of them is rangecheck
abbrev pub two_or_range : List Obj → Result RealPointValue PsName
two_or_range (width ∷ height ∷ []) = point_or_type (raw_of width) (raw_of height)
two_or_range objects = Err RangeCheck

-- the two sides that objects are: first each has to be a number, else typecheck, then there have to be two, else
-- rangecheck
abbrev pub sides_of : List Obj → Result RealPointValue PsName
sides_of objects = if list_all is_number objects then two_or_range objects else Err TypeCheck

-- the size of a page of two sides, or their refusal
abbrev pub with_sides : ℕ → Result RealPointValue PsName → Result PageDots PsName
with_sides res (Ok sides) = dots_of_sides res sides
with_sides res (Err name) = Err name

-- the size that an object is as a PageSize, typecheck where it is no array
abbrev pub size_in : ℕ → StoreValue → Obj → Result PageDots PsName
size_in res s (Array p x) = with_sides res (sides_of (objects_of s p))
size_in res s o = Err TypeCheck

-- the size by the PageSize, where there is one, and else the page's own
abbrev pub size_by : PageSize → StoreValue → Option Obj → Result PageDots PsName
size_by size s None = Ok (record { width = size.width; height = size.height })
size_by size s (Some o) = size_in size.res s o

-- the size that the top operand asks for, typecheck where it is no dictionary
abbrev pub one_size : PageSize → List Obj → StoreValue → Result PageDots PsName
one_size size (Dict dict ∷ rest) s = size_by size s (found s dict (Named (codes "PageSize")))
one_size size (o ∷ rest) s = Err TypeCheck
one_size size [] s = Err StackUnderflow

-- `setpagedevice`: a page without marks of that size, with what `initgraphics` sets
abbrev pub setpagedevice_row : List Obj → StoreValue → GfxValue → Outcome OperandsAndGraphics
setpagedevice_row operands s g =
    or_refusal (one_size g.size operands s) (λ dots.
    Goes (record { operands = drop 1 operands; graphics = resized g dots.width dots.height }))
