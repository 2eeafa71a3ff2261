use Rattle.img_samples.proofs.Feeding.{in_two}
use Rattle.img_samples.proofs.laws.pieces_are_as_one.Goals as goal

pub returns : goal.returns
returns c = in_two
