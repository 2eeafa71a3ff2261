use Rattle.std.proofs.Common.{rules, ◌≡◌, refl, ap, Ok, Err}
use Rattle.ps_store.specs.declared.fault.OpFault.TheVariants.{Ps}
use Rattle.ps_gfx_ops.specs.Rectangles.{one_rectangle}
use Rattle.ps_gfx_ops.proofs.Strokes.{missing, without_pen, by_pen}
use Rattle.ps_gfx_ops.proofs.rectangles.rectstroke.Goals as goal

-- src/rectangles.rt:132:9
pub returns-then-not-has_pen-clause-answers : goal.returns-then-not-has_pen-clause-answers
returns-then-not-has_pen-clause-answers c =
    let is : one_rectangle c.args.gfx.now.state.matrix c.args.stack.now ≡ Ok c.in_ok-points.points = search rules in
    (without_pen c.args.stack.now c.args.gfx.now c.in_ok-points.points is (missing _ c.if-not-has_pen.ensures.1), refl)

pub returns-then-not-has_pen-clause-refused_at_first : goal.returns-then-not-has_pen-clause-refused_at_first
returns-then-not-has_pen-clause-refused_at_first c name refused =
    let is : one_rectangle c.args.gfx.now.state.matrix c.args.stack.now ≡ Ok c.in_ok-points.points = search rules in
    ap (λ cause. Err (Ps cause)) (by_pen c.args.stack.now c.args.gfx.now c.in_ok-points.points name is refused)

pub returns-in-Err-LimitCheck-clause-refused_at_first : goal.returns-in-Err-LimitCheck-clause-refused_at_first
returns-in-Err-LimitCheck-clause-refused_at_first c name refused =
    let is : one_rectangle c.args.gfx.now.state.matrix c.args.stack.now ≡ Ok c.in_ok-points.points = search rules in
    ap (λ cause. Err (Ps cause)) (by_pen c.args.stack.now c.args.gfx.now c.in_ok-points.points name is refused)
