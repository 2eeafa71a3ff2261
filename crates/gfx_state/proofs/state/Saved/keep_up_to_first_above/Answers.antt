use Rattle.gfx_state.proofs.SavedLemmas.{kept_up_to}
use Rattle.gfx_state.proofs.state.Saved.keep_up_to_first_above.Goals as goal

pub returns : goal.returns
returns c = kept_up_to _ _ _ _ c.self.view_is c.truncate.ensures.items
