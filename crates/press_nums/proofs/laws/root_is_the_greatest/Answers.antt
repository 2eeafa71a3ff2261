use Rattle.press_nums.proofs.RootLemmas.{root_greatest}
use Rattle.press_nums.proofs.laws.root_is_the_greatest.Goals as goal

pub returns : goal.returns
returns c = root_greatest
