use Rattle.std.proofs.Common.{arith}
use Rattle.geo_fill.proofs.Listing.{edge_listed, all_edges_listed}
use Rattle.geo_fill.proofs.edge.list_ring.Goals as goal

pub loop-i-preserved : goal.loop-i-preserved
loop-i-preserved c = edge_listed c.args.first c.args.end c.loop-i.i _ _ c.args.points.now _ _ _
    (omega arith) c.index-points-i.is c.index-points-i-in-loop-i.is c.loop-i.invariant c.in_ok-list_edge.ensures

pub returns : goal.returns
returns c = all_edges_listed c.args.first c.args.end c.loop-i.i c.args.points.now _ _ (omega arith) c.loop-i.invariant
