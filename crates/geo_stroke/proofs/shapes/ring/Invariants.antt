use Rattle.std.proofs.Common.{◌≡◌, take}
use Rattle.geo_stroke.proofs.shapes.ring.Given as goal

-- the points so far
abbrev pub invariant-loop-point : goal.invariant-loop-point
invariant-loop-point l = l.ring ≡ take l.point-index l.points
