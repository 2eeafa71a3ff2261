use Rattle.band_writer.proofs.Marks.{band_paints}
use Rattle.band_writer.proofs.laws.lists_paint_the_page.Goals as goal

pub returns : goal.returns
returns c = band_paints
