use Rattle.page_model.proofs.Bands.{bands_in_order}
use Rattle.page_model.proofs.laws.bands_are_the_page.Goals as goal

pub returns : goal.returns
returns c = bands_in_order
