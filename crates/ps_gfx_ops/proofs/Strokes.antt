-- What rectstroke refuses by its pen.
use Rattle.std.proofs.Common.{◌≡◌, ◌≢◌, refl, sym, ap, ◌∙◌, true, false, true≢false, List, drop, Option, Some, None, Ok}
use Rattle.std.specs.Option.{option_and_then}
use Rattle.press_fault.specs.Plane.{PointValue}
use Rattle.press_fault.specs.declared.names.PsName.{PsName}
use Rattle.press_fault.specs.declared.names.PsName.TheVariants.{LimitCheck}
use Rattle.geo_path.specs.Path.{PathValue}
use Rattle.geo_path.specs.Flat.{lines_of}
use Rattle.geo_stroke.specs.Pen.{PenValue}
use Rattle.ps_store.specs.declared.obj.Obj.{Obj}
use Rattle.ps_store.specs.Outcome.{Outcome, Goes, Refuses, or_limit, or_refusal}
use Rattle.gfx_state.specs.Graphics.{GfxValue, marked, outlined, stroked_along}
use Rattle.gfx_state.specs.Stroke.{pen_of}
use Rattle.ps_gfx_ops.specs.Easel.{OperandsAndGraphics}
use Rattle.ps_gfx_ops.specs.Rectangles.{one_rectangle, path_along, rectstroke_row, rectstroke_start}

-- what isn't told to be there isn't
pub missing : {A : Type 0} (o : Option A) → ((o ≢ None) → false ≡ true) → o ≡ None
missing None told = refl
missing (Some a) told = absurd (true≢false (sym (told (λ e. cc))))

-- without a pen no path is stroked
no_stroke : (g : GfxValue) (path : PathValue) → pen_of g.state.matrix g.state.line ≡ None → stroked_along g path ≡ None
no_stroke g path none = ap (λ pen. option_and_then (marked g) (option_and_then (outlined (lines_of path)) pen)) none

-- nor a rectangle
pub without_pen : (operands : List Obj) (g : GfxValue) (points : List PointValue) →
    one_rectangle g.state.matrix operands ≡ Ok points → pen_of g.state.matrix g.state.line ≡ None →
    rectstroke_row operands g ≡ Refuses LimitCheck
without_pen operands g points is none =
    ap (λ r. or_refusal r (λ ring. or_limit (stroked_along g (path_along ring))
    (λ page. Goes (record { operands = drop 4 operands; graphics = page })))) is
    ∙ ap (λ s. or_limit s (λ page. Goes (record { operands = drop 4 operands; graphics = page })))
    (no_stroke g (path_along points) none)

-- a rectangle is refused by its pen alone
pub by_pen : (operands : List Obj) (g : GfxValue) (points : List PointValue) (name : PsName) →
    one_rectangle g.state.matrix operands ≡ Ok points → rectstroke_start operands g ≡ Refuses name → LimitCheck ≡ name
by_pen operands g points name is refused =
    by (pen_of g.state.matrix g.state.line) (sym
    (ap (λ r. or_refusal r (λ ring. or_limit (pen_of g.state.matrix g.state.line) (λ pen. go))) is) ∙ refused)
  where
    go : Outcome OperandsAndGraphics
    go = Goes (record { operands = operands; graphics = g })

    by : (pen : Option PenValue) → or_limit pen (λ p. go) ≡ Refuses name → LimitCheck ≡ name
    by None told = cc
    by (Some p) told = absurd (cc)
