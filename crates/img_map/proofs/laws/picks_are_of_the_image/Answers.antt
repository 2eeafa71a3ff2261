use Rattle.img_map.proofs.Picking.{numbered}
use Rattle.img_map.proofs.laws.picks_are_of_the_image.Goals as goal

pub returns : goal.returns
returns c = numbered
