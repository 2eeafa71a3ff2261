use Rattle.std.proofs.Common.{◌≡◌, ◌≤◌, length, take, reverse}
use Rattle.ps_flow.specs.Levels.{below_stopped}
use Rattle.ps_flow.proofs.flow.place_of_stopped.Given as goal

-- the levels that were passed are none that it looks for
abbrev pub invariant-loop-at : goal.invariant-loop-at
invariant-loop-at l = (l.at ≤ length l.levels) ×
    (below_stopped (reverse (take l.at l.levels)) ≡ below_stopped (reverse l.levels))

abbrev pub decreases-loop-at : goal.decreases-loop-at
decreases-loop-at l = l.at
