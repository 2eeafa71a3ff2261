use Rattle.std.proofs.Common.{rules}
use Rattle.geo_fill.proofs.Making.{line_made, near_all}
use Rattle.geo_fill.proofs.edge.edge_at.Goals as goal

pub edge_of-requires-clause-near : goal.edge_of-requires-clause-near
edge_of-requires-clause-near c = near_all c.args.low c.args.high c.place_at-place.result c.sub-rise.result
    c.sub-run.result c.args.row c.args.last (search rules) (search rules) (search rules) (search rules)
    (search rules) c.requires.begins c.requires.ends

pub returns : goal.returns
returns c = line_made c.args.low c.args.high c.place_at-place.result c.sub-rise.result c.sub-run.result c.args.rises
    c.args.row c.args.last _ c.requires.down (search rules) (search rules) (search rules) c.edge_of.ensures
