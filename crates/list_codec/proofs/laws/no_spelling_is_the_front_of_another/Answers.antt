use Rattle.list_codec.proofs.Commands.{one_front}
use Rattle.list_codec.proofs.laws.no_spelling_is_the_front_of_another.Goals as goal

pub returns : goal.returns
returns c = one_front
