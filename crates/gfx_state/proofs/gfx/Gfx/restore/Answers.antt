use Rattle.gfx_state.proofs.ClipLemmas.{with_popped}
use Rattle.gfx_state.proofs.gfx.Gfx.restore.Goals as goal

pub invariant_of-self : goal.invariant_of-self
invariant_of-self c = (
  c.self.invariant.0,
  c.self.invariant.1,
  c.self.invariant.2,
  with_popped _ _ _ _ _ _ _ c.in-Some.ensures.popped c.self.invariant.3,
)

pub invariant_of-self-in-Some-2 : goal.invariant_of-self-in-Some-2
invariant_of-self-in-Some-2 c = (
  c.self.invariant.0,
  c.self.invariant.1,
  c.self.invariant.2,
  with_popped _ _ _ _ _ _ _ c.in-Some.ensures.popped c.self.invariant.3,
)
