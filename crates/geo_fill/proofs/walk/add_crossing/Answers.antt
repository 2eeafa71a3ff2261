use Rattle.geo_fill.proofs.walk.add_crossing.Goals as goal
use Rattle.geo_fill.proofs.Walking.{crossing_added}

pub returns : goal.returns
returns c = rw c.in_ok-push.ensures.items
    (crossing_added c.args.from c.args.to c.args.row c.col_in.result c.args.edge.now c.args.crossings.now.items
    c.requires.active c.col_in.ensures.first c.col_in.ensures.end c.col_in.ensures.turns)
