use Rattle.std.proofs.Common.{rules}
use Rattle.geo_path.proofs.AngleLemmas.{inner_is, last_is, fits_is}
use Rattle.geo_path.proofs.arc.Angles.at.Goals as goal

pub fix_small-requires : goal.fix_small-requires
fix_small-requires c = fits_is c.self.inside.between c.self.inside.clockwise c.self.inside.from c.self.inside.to
    c.args.i _ c.self.invariant
    (search rules) c.if-i-self.true c.multiple_at.ensures

pub returns-then-i-self : goal.returns-then-i-self
returns-then-i-self c = inner_is c.self.inside.between c.self.inside.clockwise c.self.inside.from c.self.inside.to
    c.args.self.now c.args.i c.fix_small.result
    c.self.invariant c.self.view_is (search rules) c.if-i-self.true (search rules)

pub returns-else-i-self : goal.returns-else-i-self
returns-else-i-self c = last_is c.self.inside.between c.self.inside.clockwise c.self.inside.from c.self.inside.to
    c.args.self.now c.args.i
    c.self.invariant c.self.view_is c.if-i-self.false c.requires
