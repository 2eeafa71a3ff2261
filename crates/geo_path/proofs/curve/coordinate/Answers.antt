use Rattle.std.proofs.Common.{rules}
use Rattle.geo_path.proofs.CurveLemmas.{curve_near_is}
use Rattle.geo_path.proofs.curve.coordinate.Goals as goal

pub returns-clause-near : goal.returns-clause-near
returns-clause-near c = curve_near_is c.args.n c.args.i c.args.p0 c.args.p1 c.args.p2 c.args.p3 c.div_round.result
    c.requires.some c.requires.within
    c.requires.p0 c.requires.p1 c.requires.p2 c.requires.p3 (search rules)
