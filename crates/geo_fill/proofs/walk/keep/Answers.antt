use Rattle.geo_fill.proofs.walk.keep.Goals as goal
use Rattle.geo_fill.proofs.Walking.{kept_one, left_out}

pub returns-then-row-edge : goal.returns-then-row-edge
returns-then-row-edge c = kept_one c.args.row c.args.kept c.args.edge.now c.in_next_row.result c.args.edges.now
    c.requires.inside c.requires.active c.in_next_row.ensures

pub returns-else-row-edge : goal.returns-else-row-edge
returns-else-row-edge c = left_out c.args.row c.args.kept c.args.edge.now c.args.edges.now c.if-row-edge.false
