use Rattle.std.proofs.Common.{arith}
use Rattle.std.specs.List.{list_any}
use Rattle.std.specs.Prelude.{int_le}
use Rattle.press_fault.specs.Plane.{PointValue}
use Rattle.page_model.proofs.Growing.{grown_by_one, grown_by_all}
use Rattle.list_player.proofs.reach.with_rings.Goals as goal

pub loop-ring-preserved : goal.loop-ring-preserved
loop-ring-preserved c =
    grown_by_one _ _ _ (λ y. list_any (λ (p : PointValue). int_le p.y y))
    (λ y. list_any (λ (p : PointValue). int_le y p.y)) c.args.rings.now _ _
    (omega arith) c.ring-item.is c.loop-ring.invariant c.with_ring-so_far.ensures

pub returns : goal.returns
returns c = grown_by_all _ _ (λ y. list_any (λ (p : PointValue). int_le p.y y))
    (λ y. list_any (λ (p : PointValue). int_le y p.y)) c.args.rings.now _ (omega arith) c.loop-ring.invariant
