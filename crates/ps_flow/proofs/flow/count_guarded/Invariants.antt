use Rattle.std.proofs.Common.{◌≡◌, ◌≤◌, ◌+◌, length, take, reverse}
use Rattle.ps_flow.specs.Levels.{guarded_in}
use Rattle.ps_flow.proofs.flow.count_guarded.Given as goal

-- those that were counted, and those that are left
abbrev pub invariant-loop-at : goal.invariant-loop-at
invariant-loop-at l = (l.at + l.guarded ≤ length l.levels) ×
    (l.guarded + guarded_in (reverse (take l.at l.levels)) ≡ guarded_in (reverse l.levels))

abbrev pub decreases-loop-at : goal.decreases-loop-at
decreases-loop-at l = l.at
