use Rattle.std.proofs.Common.{◌+◌, ◌-◌, length}
use Rattle.geo_fill.specs.Code.WalkSteps.{AreEnteredSoFar}
use Rattle.geo_fill.proofs.walk.enter.Given as goal

-- the edges so far were entered, and those behind still wait
abbrev pub invariant-loop-edge : goal.invariant-loop-edge
invariant-loop-edge l = AreEnteredSoFar l.row l.active l.next l.entered l.initial.edges l.edges

abbrev pub decreases-loop-edge : goal.decreases-loop-edge
decreases-loop-edge l = length l.edges - (l.next + l.entered)
