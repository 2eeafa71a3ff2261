use Rattle.geo_fill.specs.Code.WalkSteps.{AreMovedSoFar}
use Rattle.geo_fill.proofs.walk.move_on.Given as goal

-- the edges so far were moved on, and those behind stand as before
abbrev pub invariant-loop-i : goal.invariant-loop-i
invariant-loop-i l = AreMovedSoFar l.row l.i l.kept l.initial.edges l.edges
