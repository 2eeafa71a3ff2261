use Rattle.list_codec.proofs.Commands.{put_is_read}
use Rattle.list_codec.proofs.laws.what_was_put_is_read.Goals as goal

pub returns : goal.returns
returns c = put_is_read
