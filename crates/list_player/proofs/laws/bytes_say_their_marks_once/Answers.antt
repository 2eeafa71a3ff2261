use Rattle.list_player.proofs.Lists.{said_once}
use Rattle.list_player.proofs.laws.bytes_say_their_marks_once.Goals as goal

pub returns : goal.returns
returns c = said_once
