-- The state saved first above others, of states that are kept in the order in which they were saved.
use Rattle.std.proofs.Common.{◌≡◌, ◌∙◌, ◌+◌, ℕ, ap, sym, List, take, reverse, slice_get}
use Rattle.std.proofs.lemmas.List.{reverse-reverse}
use Rattle.gfx_state.specs.Graphics.{StateValue, first_above, up_to_first_above}

as_kept : (states saved : List StateValue) → reverse states ≡ saved → states ≡ reverse saved
as_kept states saved view = sym (reverse-reverse states) ∙ ap reverse view

-- the saved states as the code keeps them, up to one place, are those up to the one that was saved first above so many
pub kept_up_to : (floor : ℕ) (states left saved : List StateValue) → reverse states ≡ saved →
    left ≡ take (floor + 1) states → reverse left ≡ up_to_first_above floor saved
kept_up_to floor states left saved view is =
    ap reverse (is ∙ ap (take (floor + 1)) (as_kept states saved view))

-- the saved state at a place, as the code keeps them, is the one that was saved first above so many
pub first_of : (floor : ℕ) (states saved : List StateValue) → reverse states ≡ saved →
    slice_get states floor ≡ first_above floor saved
first_of floor states saved view = ap (λ xs. slice_get xs floor) (as_kept states saved view)
