use Rattle.std.proofs.Common.{rules}
use Rattle.link_build.proofs.Points.{one_is}
use Rattle.link_build.proofs.link.value_of_one.Goals as goal

pub returns : goal.returns
returns c = one_is c.args.code c.code.inside.n c.code.inside.c c.code.view_is c.code.invariant c.requires
    (search rules)
