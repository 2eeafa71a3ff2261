use Rattle.std.proofs.Common.{rules, ◌≡◌, Some}
use Rattle.gfx_state.specs.Graphics.{first_above}
use Rattle.gfx_state.proofs.ClipLemmas.{with_first}
use Rattle.gfx_state.proofs.gfx.Gfx.restore_all.Goals as goal

pub invariant_of-self : goal.invariant_of-self
invariant_of-self c =
    let first : Some c.in-Some.state ≡ first_above c.self.inside.floor c.self.inside.saved = search rules in (
      c.self.invariant.0,
      c.self.invariant.1,
      c.self.invariant.2,
      rw c.keep_up_to_first_above.ensures (with_first _ _ _ _ _ _ c.in-Some.state first c.self.invariant.3),
    )

pub invariant_of-self-in-Some-2 : goal.invariant_of-self-in-Some-2
invariant_of-self-in-Some-2 c =
    let first : Some c.in-Some.state ≡ first_above c.self.inside.floor c.self.inside.saved = search rules in (
      c.self.invariant.0,
      c.self.invariant.1,
      c.self.invariant.2,
      rw c.keep_up_to_first_above.ensures (with_first _ _ _ _ _ _ c.in-Some.state first c.self.invariant.3),
    )
