use Rattle.std.proofs.Common.{arith}
use Rattle.geo_fill.proofs.Listing.{ring_listed, all_rings_listed}
use Rattle.geo_fill.proofs.edge.list_rings.Goals as goal

pub loop-ring-preserved : goal.loop-ring-preserved
loop-ring-preserved c = ring_listed c.args.first c.args.end c.loop-ring.ring-index _ _ c.args.rings.now _ _ _
    (omega arith) c.items.ensures c.ring-item.is c.loop-ring.invariant c.in_ok-list_ring.ensures

pub returns : goal.returns
returns c = all_rings_listed c.args.first c.args.end c.loop-ring.ring-index c.args.rings.now _ _
    (omega arith) c.loop-ring.invariant
