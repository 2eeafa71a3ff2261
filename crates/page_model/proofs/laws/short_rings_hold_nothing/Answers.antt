use Rattle.page_model.proofs.Windings.{rings_are_long}
use Rattle.page_model.proofs.laws.short_rings_hold_nothing.Goals as goal

pub returns : goal.returns
returns c = rings_are_long
