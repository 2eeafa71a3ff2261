use Rattle.press_nums.proofs.Floors.{floor_division}
use Rattle.press_nums.proofs.floor.divide_floor.Goals as goal

pub returns-clause-division : goal.returns-clause-division
returns-clause-division c = floor_division _ _ _ _ _ c.requires.positive c.floor_quotient-quotient.ensures
    c.mul.ensures.value c.sub.ensures.value
