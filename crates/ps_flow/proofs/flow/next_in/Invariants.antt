use Rattle.std.proofs.Common.{◌≡◌, reverse}
use Rattle.arrayvec.specs.ArrayVec.{array_vec_len}
use Rattle.ps_flow.specs.Levels.{next_of}
use Rattle.ps_flow.proofs.flow.next_in.Given as goal

-- a level that went gave nothing
abbrev pub invariant-loop-items : goal.invariant-loop-items
invariant-loop-items l = next_of (reverse l.items.items) ≡ next_of (reverse l.fn.items.items)

abbrev pub decreases-loop-items : goal.decreases-loop-items
decreases-loop-items l = array_vec_len l.items
