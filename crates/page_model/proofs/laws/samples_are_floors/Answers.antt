use Rattle.page_model.proofs.Floors.{floor_is_greatest}
use Rattle.page_model.proofs.laws.samples_are_floors.Goals as goal

pub returns : goal.returns
returns c = floor_is_greatest
