use Rattle.band_writer.proofs.Marks.{band_says}
use Rattle.band_writer.proofs.laws.lists_say_their_marks.Goals as goal

pub returns : goal.returns
returns c = band_says
