use Rattle.std.proofs.Common.{rules}
use Rattle.geo_path.proofs.PointLemmas.{refused_point, no_room, one_point}
use Rattle.geo_path.proofs.arc.Arc.next.Goals as goal

pub returns-in-Err-clause-step : goal.returns-in-Err-clause-step
returns-in-Err-clause-step c = refused_point c.args.self.now.circle c.args.self.now.angles c.args.self.now.room c.args.i
    c.at.result c.in-Err.fault
    c.at.ensures c.in-Err.ensures.value

pub returns-then-i-from-clause-step : goal.returns-then-i-from-clause-step
returns-then-i-from-clause-step c = no_room c.args.self.now.circle c.args.self.now.angles c.args.self.now.room c.args.i
    c.at.result c.in-Ok.p
    c.at.ensures c.in-Ok.ensures.value (search rules)

pub returns-clause-step : goal.returns-clause-step
returns-clause-step c = one_point c.args.self.now.circle c.args.self.now.angles c.args.self.now.room c.args.i
    c.at.result c.in-Ok.p
    c.at.ensures c.in-Ok.ensures.value (search rules)
