use Rattle.std.proofs.Common.{arith}
use Rattle.geo_fill.proofs.walk.add_crossings.Goals as goal
use Rattle.geo_fill.proofs.Walking.{crossings_more}

pub loop-edge-preserved : goal.loop-edge-preserved
loop-edge-preserved c = crossings_more c.args.from c.args.to c.args.row c.loop-edge.edge-index _ c.args.edges.now
    c.args.crossings.now.items c.loop-edge.crossings.items c.add_crossing.new.crossings.items
    (omega arith) c.edge-item.is c.loop-edge.invariant c.in_ok-add_crossing.ensures
