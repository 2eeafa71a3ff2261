use Rattle.geo_path.proofs.AngleLemmas.{length_is}
use Rattle.geo_path.proofs.arc.Angles.len.Goals as goal

pub returns : goal.returns
returns c = length_is c.self.inside.between c.self.inside.clockwise c.self.inside.from c.self.inside.to c.args.self.now
    c.self.invariant c.self.view_is
