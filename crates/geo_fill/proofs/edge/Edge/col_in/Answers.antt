use Rattle.std.proofs.Common.{◌∙◌, arith}
use Rattle.geo_fill.proofs.Moving.{col_crossed}
use Rattle.geo_fill.proofs.edge.Edge.col_in.Goals as goal

pub returns-clause-turns : goal.returns-clause-turns
returns-clause-turns c = λ col late less. c.clamped.ensures.places col (omega (arith, c.from.ensures))
    (omega (arith, c.from-2.ensures)) ∙ (rw c.wide.ensures.value (col_crossed c.args.self.now col c.requires.edge))
