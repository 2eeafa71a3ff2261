use Rattle.band_writer.proofs.Painting.{left_out}
use Rattle.band_writer.proofs.laws.marks_left_out_cover_nothing.Goals as goal

pub returns : goal.returns
returns c = left_out
