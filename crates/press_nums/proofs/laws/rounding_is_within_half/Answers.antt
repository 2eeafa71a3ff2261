use Rattle.press_nums.specs.Rounding.{div_round}
use Rattle.press_nums.proofs.Nearest.{nearest, within_half}
use Rattle.press_nums.proofs.laws.rounding_is_within_half.Goals as goal

pub returns : goal.returns
returns c = λ n d h. within_half n d (div_round n d) h (nearest n d h)
