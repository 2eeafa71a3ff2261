use Rattle.std.proofs.Common.{arith}
use Rattle.std.proofs.lemmas.Int.{ints}
use Rattle.geo_fill.proofs.Moving.{next_edge}
use Rattle.geo_fill.proofs.edge.Edge.in_next_row.Goals as goal

pub returns-then-self : goal.returns-then-self
returns-then-self c = next_edge c.args.self.now 1 _ _ c.requires.edge c.requires.more
    (omega (arith, c.requires.edge.part)) (omega (arith, ints, c.requires.edge.part)) c.next_col.ensures

pub returns-else-self : goal.returns-else-self
returns-else-self c = next_edge c.args.self.now 0 _ _ c.requires.edge c.requires.more
    (omega (arith, c.requires.edge.over)) (omega (arith, ints)) c.next_col-else-self.ensures
