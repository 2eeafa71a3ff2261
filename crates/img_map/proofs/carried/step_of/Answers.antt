use Rattle.std.proofs.Common.{arith}
use Rattle.img_map.proofs.Carrying.{step_is_small}
use Rattle.img_map.proofs.carried.step_of.Goals as goal

pub returns-clause-small : goal.returns-clause-small
returns-clause-small c = step_is_small _ _ _ c.requires.positive
    (omega (arith, c.times.ensures.bound, c.requires.coefficient)) c.requires.den c.divide_floor.ensures.bound
    c.divide_floor.ensures.division
