use Rattle.gfx_state.proofs.ClipLemmas.{with_whole}
use Rattle.gfx_state.proofs.gfx.Gfx.initial.Goals as goal

pub invariant_of-self : goal.invariant_of-self
invariant_of-self c = (
  c.self.invariant.0,
  c.self.invariant.1,
  c.self.invariant.2,
  rw (c.initial.ensures 0) (with_whole _ _ _ _ _ c.self.invariant.3),
)
