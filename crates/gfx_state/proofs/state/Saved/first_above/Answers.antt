use Rattle.std.proofs.Common.{◌∙◌, ap, sym, Some}
use Rattle.std.proofs.lemmas.Option.{slice_get-get_or}
use Rattle.gfx_state.proofs.SavedLemmas.{first_of}
use Rattle.gfx_state.proofs.state.Saved.first_above.Goals as goal

pub returns-in_ok-copy-in-Some : goal.returns-in_ok-copy-in-Some
returns-in_ok-copy-in-Some c =
    let found = c.in-Some.ensures.lookup.3 in
    ap Some (c.in_ok-copy-in-Some.ensures ∙ found.1 c.in-Some.state.now)
    ∙ sym (slice_get-get_or c.deref.result.now c.args.floor c.in-Some.state.now found.0)
    ∙ rw c.deref.ensures.value (first_of _ _ _ c.self.view_is)
