use Rattle.std.proofs.Common.{rules}
use Rattle.gfx_state.proofs.ClipLemmas.{at_first}
use Rattle.gfx_state.proofs.gfx.Gfx.new.Goals as goal

pub invariant_of-result : goal.invariant_of-result
invariant_of-result c = (
  search rules,
  search rules,
  search rules,
  rw (c.initial.ensures 0, c.new-4.ensures, c.blank.ensures) at_first,
)
