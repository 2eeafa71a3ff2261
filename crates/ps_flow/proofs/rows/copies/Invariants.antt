use Rattle.std.proofs.Common.{◌≡◌, take}
use Rattle.ps_flow.proofs.rows.copies.Given as goal

-- the objects so far
abbrev pub invariant-loop-at : goal.invariant-loop-at
invariant-loop-at l = l.held.items ≡ take l.at l.items
