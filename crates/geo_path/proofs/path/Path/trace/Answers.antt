use Rattle.std.proofs.Common.{rules, refl}
use Rattle.geo_path.proofs.CountLemmas.{trace_counted}
use Rattle.geo_path.proofs.path.Path.trace.Goals as goal

pub invariant_of-self-2 : goal.invariant_of-self-2
invariant_of-self-2 c = trace_counted c.args.self.now c.trace.new.self c.args.points.now _ c.room.result c.room.ensures
    c.requires.some (search rules)
    refl (search rules)
