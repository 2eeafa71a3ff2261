-- Rectangles (PostScript Language Reference, third edition, 8.2 Operator Details: rectfill, rectstroke, rectclip). Own
-- rule:
-- both sums are asked before any point.
use Rattle.std.specs.Prelude.{ℤ, ◌+ℤ◌, true, List, [], ◌∷◌, drop, map, Option, Some, Result, Ok, Err}
use Rattle.press_nums.specs.Fix.{fix_of}
use Rattle.press_fault.specs.Plane.{PointValue}
use Rattle.press_fault.specs.declared.names.PsName.{PsName}
use Rattle.press_fault.specs.declared.names.PsName.TheVariants.{StackUnderflow, TypeCheck, UndefinedResult, LimitCheck}
use Rattle.geo_matrix.specs.Affine.{MatrixValue, dots_of}
use Rattle.geo_path.specs.declared.segment.Segment.TheVariants.{Line}
use Rattle.geo_path.specs.Path.{PathValue}
use Rattle.page_model.specs.declared.shape.Rule.TheVariants.{Nonzero}
use Rattle.ps_store.specs.declared.obj.Obj.{Obj}
use Rattle.ps_store.specs.Numbers.{raw_of}
use Rattle.ps_store.specs.Outcome.{Outcome, Goes, or_limit, or_refusal}
use Rattle.gfx_state.specs.Graphics.{GfxValue, painted, stroked_along, clipped_to, with_path, no_path}
use Rattle.gfx_state.specs.Stroke.{pen_of}
use Rattle.ps_gfx_ops.specs.Easel.{OperandsAndGraphics}

-- four corners in device space as a ring; limitcheck where one is too far
abbrev pub ring_or_limit : Option PointValue → Option PointValue → Option PointValue → Option PointValue →
    Result (List PointValue) PsName
ring_or_limit (Some p) (Some q) (Some r) (Some s) = Ok (p ∷ q ∷ r ∷ s ∷ [])
ring_or_limit p q r s = Err LimitCheck

-- the corners (x, y), (right, y), (right, top), (x, top), where both sums are in range
abbrev pub corners_of : MatrixValue → ℤ → ℤ → Option ℤ → Option ℤ → Result (List PointValue) PsName
corners_of m x y (Some right) (Some top) =
    ring_or_limit (dots_of m x y) (dots_of m right y) (dots_of m right top) (dots_of m x top)
corners_of m x y right top = Err UndefinedResult

-- the rectangle of a corner, a width and a height in user space, as a ring in device space
abbrev pub rectangle_of : MatrixValue → ℤ → ℤ → ℤ → ℤ → Result (List PointValue) PsName
rectangle_of m x y w h = corners_of m x y (fix_of (x +ℤ w)) (fix_of (y +ℤ h))

-- the rectangle that four numbers are, else typecheck
abbrev pub rectangle_or_type : MatrixValue → Option ℤ → Option ℤ → Option ℤ → Option ℤ → Result (List PointValue) PsName
rectangle_or_type m (Some x) (Some y) (Some w) (Some h) = rectangle_of m x y w h
rectangle_or_type m x y w h = Err TypeCheck

-- the rectangle that the top four operands are, stackunderflow where they are fewer
abbrev pub one_rectangle : MatrixValue → List Obj → Result (List PointValue) PsName
one_rectangle m (h ∷ w ∷ y ∷ x ∷ rest) = rectangle_or_type m (raw_of x) (raw_of y) (raw_of w) (raw_of h)
one_rectangle m operands = Err StackUnderflow

-- a ring as a path: one closed subpath
abbrev pub path_along : List PointValue → PathValue
path_along [] = no_path
path_along (p ∷ rest) = record {
  before = [];
  last =
      Some (record { start = p; segments = map Line rest; closed = true });
}

-- `rectfill`: one mark more, the rectangle by the nonzero rule; the path stays
abbrev pub rectfill_row : List Obj → GfxValue → Outcome OperandsAndGraphics
rectfill_row operands g =
    or_refusal (one_rectangle g.state.matrix operands) (λ ring. or_limit (painted g Nonzero (ring ∷ [])) (λ page.
    Goes (record { operands = drop 4 operands; graphics = page })))

-- `rectstroke`: the marks of the rectangle's outline; the path stays
abbrev pub rectstroke_row : List Obj → GfxValue → Outcome OperandsAndGraphics
rectstroke_row operands g =
    or_refusal (one_rectangle g.state.matrix operands) (λ ring. or_limit (stroked_along g (path_along ring)) (λ page.
    Goes (record { operands = drop 4 operands; graphics = page })))

-- what of this is asked before any memory is: whether the operands are a rectangle, and then whether the pen is in
-- range
abbrev pub rectstroke_start : List Obj → GfxValue → Outcome OperandsAndGraphics
rectstroke_start operands g =
    or_refusal (one_rectangle g.state.matrix operands) (λ ring. or_limit (pen_of g.state.matrix g.state.line) (λ pen.
    Goes (record { operands = operands; graphics = g })))

-- `rectclip`: the clip cut to the rectangle by the nonzero rule; the current path is empty then
abbrev pub rectclip_row : List Obj → GfxValue → Outcome OperandsAndGraphics
rectclip_row operands g =
    or_refusal (one_rectangle g.state.matrix operands)
    (λ ring. or_limit (clipped_to g Nonzero (path_along ring)) (λ now.
    Goes (record { operands = drop 4 operands; graphics = with_path now no_path })))
