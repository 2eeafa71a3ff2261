use Rattle.std.proofs.Common.{ap, arith, ◌∙◌}
use Rattle.geo_path.specs.Curve.{curve_spot}
use Rattle.geo_path.proofs.CurveLemmas.{one_more}
use Rattle.geo_path.proofs.curve.push_curve.Goals as goal

pub loop-i-preserved : goal.loop-i-preserved
loop-i-preserved c = one_more (curve_spot c.pieces-n.result c.args.c.now.p0 c.args.c.now.p1 c.args.c.now.p2
    c.args.c.now.p3) 1 c.loop-i.i _ _ _ _
    c.loop-i.invariant c.in_ok-push.ensures.ok
    (c.point_of.ensures ∙ ap (curve_spot c.pieces-n.result c.args.c.now.p0 c.args.c.now.p1 c.args.c.now.p2
    c.args.c.now.p3) (omega arith))
