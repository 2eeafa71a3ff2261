use Rattle.std.proofs.Common.{arith}
use Rattle.std.specs.Prelude.{int_le}
use Rattle.press_fault.specs.Plane.{PointValue}
use Rattle.page_model.proofs.Growing.{grown_by_one, grown_by_all}
use Rattle.list_player.proofs.reach.with_points.Goals as goal

pub loop-point-preserved : goal.loop-point-preserved
loop-point-preserved c =
    grown_by_one _ _ _ (λ y (p : PointValue). int_le p.y y) (λ y (p : PointValue). int_le y p.y) c.args.points.now _ _
    (omega arith) c.point-item.is c.loop-point.invariant c.with_point-so_far.ensures

pub returns : goal.returns
returns c = grown_by_all _ _ (λ y (p : PointValue). int_le p.y y)
    (λ y (p : PointValue). int_le y p.y) c.args.points.now _ (omega arith) c.loop-point.invariant
