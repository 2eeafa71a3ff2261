-- Path construction and painting (PostScript Language Reference, third edition, 8.2 Operator Details: newpath,
-- closepath, moveto, lineto, rmoveto, rlineto, curveto, rcurveto, arc, arcn, currentpoint, fill, eofill, stroke,
-- clip, eoclip). Own rule: where there is no current point, that is asked before the points.
use Rattle.std.specs.Prelude.{ℤ, ◌+ℤ◌, Bool, List, ◌∷◌, drop, length, nat_lt, Option, Some, None, Result, Ok, Err}
use Rattle.std.specs.Prelude.{if◌then◌else◌}
use Rattle.press_fault.specs.Plane.{PointValue}
use Rattle.press_fault.specs.declared.names.PsName.{PsName}
use Rattle.press_fault.specs.declared.names.PsName.TheVariants.{StackUnderflow, StackOverflow, TypeCheck}
use Rattle.press_fault.specs.declared.names.PsName.TheVariants.{NoCurrentPoint, UndefinedResult, LimitCheck}
use Rattle.geo_matrix.specs.Affine.{dots_of, step_dots_of}
use Rattle.geo_matrix.specs.Places.{RealPointValue, back_of}
use Rattle.geo_path.specs.declared.path.PathFault.{PathFault}
use Rattle.geo_path.specs.declared.path.PathFault.TheVariants as OfPath
use Rattle.geo_path.specs.Path.{PathValue, current_of, move_of, line_of, curve_of}
use Rattle.geo_path.specs.Arc.{arc_of}
use Rattle.page_model.specs.declared.shape.Rule.{Rule}
use Rattle.ps_store.specs.declared.obj.Obj.{Obj}
use Rattle.ps_store.specs.declared.obj.Obj.TheVariants.{Real}
use Rattle.ps_store.specs.Numbers.{raw_of}
use Rattle.ps_store.specs.Outcome.{Outcome, Goes, Refuses, or_limit, or_undefined_result, or_refusal}
use Rattle.gfx_state.specs.Graphics.{GfxValue, with_path, filled, stroked, clipped}
use Rattle.gfx_state.specs.Stroke.{pen_of}
use Rattle.ps_gfx_ops.specs.Easel.{OperandsAndGraphics}
use Rattle.ps_gfx_ops.specs.Points.{one_point, three_points}

-- the error of the language that a path's refusal is; out of memory, which no definition names, counts as limitcheck
abbrev pub error_of : PathFault → PsName
error_of OfPath.NoCurrentPoint = NoCurrentPoint
error_of OfPath.UndefinedResult = UndefinedResult
error_of OfPath.LimitCheck = LimitCheck
error_of OfPath.NoMemory = LimitCheck

-- the graphics state with the path that a call on it answers, or the call's refusal
abbrev pub drawn : Result PathValue PathFault → List Obj → GfxValue → Outcome OperandsAndGraphics
drawn (Ok path) rest g = Goes (record { operands = rest; graphics = with_path g path })
drawn (Err fault) rest g = Refuses (error_of fault)

-- what needs the current point, else nocurrentpoint
abbrev pub from_point : {S : Type 0} → Option PointValue → (PointValue → Outcome S) → Outcome S
from_point (Some at) go = go at
from_point None go = Refuses NoCurrentPoint

-- a step from a point, in device space, none where the step alone is out of range
abbrev pub stepped : PointValue → PointValue → PointValue
stepped at step = record { x = at.x +ℤ step.x; y = at.y +ℤ step.y }

-- `moveto`: a new subpath starts at the point
abbrev pub moveto_row : List Obj → GfxValue → Outcome OperandsAndGraphics
moveto_row operands g =
    or_refusal (one_point operands) (λ u. or_limit (dots_of g.state.matrix u.x u.y)
    (λ p. drawn (move_of g.state.path p) (drop 2 operands) g))

-- `lineto`: a line from the current point, else nocurrentpoint
abbrev pub lineto_row : List Obj → GfxValue → Outcome OperandsAndGraphics
lineto_row operands g =
    or_refusal (one_point operands) (λ u. from_point (current_of g.state.path) (λ at.
    or_limit (dots_of g.state.matrix u.x u.y) (λ p. drawn (line_of g.state.path p) (drop 2 operands) g)))

-- `rmoveto`: a new subpath starts by a step from the current point, else nocurrentpoint
abbrev pub rmoveto_row : List Obj → GfxValue → Outcome OperandsAndGraphics
rmoveto_row operands g =
    or_refusal (one_point operands) (λ u. from_point (current_of g.state.path) (λ at.
    or_limit (step_dots_of g.state.matrix u.x u.y)
    (λ step. drawn (move_of g.state.path (stepped at step)) (drop 2 operands) g)))

-- `rlineto`: a line by a step from the current point, else nocurrentpoint
abbrev pub rlineto_row : List Obj → GfxValue → Outcome OperandsAndGraphics
rlineto_row operands g =
    or_refusal (one_point operands) (λ u. from_point (current_of g.state.path) (λ at.
    or_limit (step_dots_of g.state.matrix u.x u.y)
    (λ step. drawn (line_of g.state.path (stepped at step)) (drop 2 operands) g)))

-- `curveto`: a curve from the current point, else nocurrentpoint
abbrev pub curveto_row : List Obj → GfxValue → Outcome OperandsAndGraphics
curveto_row operands g =
    or_refusal (three_points operands) (λ u. from_point (current_of g.state.path) (λ at.
    or_limit (dots_of g.state.matrix u.first.x u.first.y) (λ p.
    or_limit (dots_of g.state.matrix u.second.x u.second.y) (λ q.
    or_limit (dots_of g.state.matrix u.third.x u.third.y) (λ r.
    drawn (curve_of g.state.path p q r) (drop 6 operands) g)))))

-- `rcurveto`: a curve whose points are all steps from the current point
abbrev pub rcurveto_row : List Obj → GfxValue → Outcome OperandsAndGraphics
rcurveto_row operands g =
    or_refusal (three_points operands) (λ u. from_point (current_of g.state.path) (λ at.
    or_limit (step_dots_of g.state.matrix u.first.x u.first.y) (λ p.
    or_limit (step_dots_of g.state.matrix u.second.x u.second.y) (λ q.
    or_limit (step_dots_of g.state.matrix u.third.x u.third.y) (λ r.
    drawn (curve_of g.state.path (stepped at p) (stepped at q) (stepped at r)) (drop 6 operands) g)))))

-- an arc round (x, y) of radius r, from one angle to another, in degrees
abbrev pub with_arc : Bool → Option ℤ → Option ℤ → Option ℤ → Option ℤ → Option ℤ → List Obj → GfxValue →
    Outcome OperandsAndGraphics
with_arc clockwise (Some x) (Some y) (Some r) (Some from) (Some to) rest g =
    drawn (arc_of g.state.path g.state.matrix x y r from to clockwise) rest g
with_arc clockwise x y r from to rest g = Refuses TypeCheck

-- `arc`, and `arcn`, which goes clockwise: by centre, radius and two angles in degrees
abbrev pub arc_row : Bool → List Obj → GfxValue → Outcome OperandsAndGraphics
arc_row clockwise (to ∷ from ∷ r ∷ y ∷ x ∷ rest) g =
    with_arc clockwise (raw_of x) (raw_of y) (raw_of r) (raw_of from) (raw_of to) rest g
arc_row clockwise operands g = Refuses StackUnderflow

-- two real numbers put on the operands, where there is room for both, else stackoverflow
abbrev pub pushed_point : RealPointValue → List Obj → GfxValue → Outcome OperandsAndGraphics
pushed_point u operands g =
    if nat_lt (length operands) 499 then Goes (record { operands = Real u.y ∷ Real u.x ∷ operands; graphics = g })
    else Refuses StackOverflow

-- `currentpoint`: its two real numbers in user space, else nocurrentpoint, undefinedresult or stackoverflow
abbrev pub currentpoint_row : List Obj → GfxValue → Outcome OperandsAndGraphics
currentpoint_row operands g =
    from_point (current_of g.state.path) (λ at. or_undefined_result (back_of g.state.matrix at)
    (λ u. pushed_point u operands g))

-- `fill` and `eofill`: the path filled by an inside rule, and empty then; limitcheck where the page has no room
abbrev pub fill_row : Rule → List Obj → GfxValue → Outcome OperandsAndGraphics
fill_row rule operands g = or_limit (filled g rule) (λ page. Goes (record { operands = operands; graphics = page }))

-- `stroke`: the path stroked by the line parameters, and empty then; limitcheck past a limit
abbrev pub stroke_row : List Obj → GfxValue → Outcome OperandsAndGraphics
stroke_row operands g = or_limit (stroked g) (λ page. Goes (record { operands = operands; graphics = page }))

-- what of this is asked before any memory is: whether the pen is in range
abbrev pub stroke_start : List Obj → GfxValue → Outcome OperandsAndGraphics
stroke_start operands g = or_limit (pen_of g.state.matrix g.state.line)
    (λ pen. Goes (record { operands = operands; graphics = g }))

-- `clip` and `eoclip`: the clip cut to the path, which stays; limitcheck where there are 256 regions
abbrev pub clip_row : Rule → List Obj → GfxValue → Outcome OperandsAndGraphics
clip_row rule operands g = or_limit (clipped g rule) (λ now. Goes (record { operands = operands; graphics = now }))
