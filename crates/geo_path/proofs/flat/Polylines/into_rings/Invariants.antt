use Rattle.std.proofs.Common.{◌≡◌, map}
use Rattle.geo_path.proofs.flat.Polylines.into_rings.Given as goal

-- there is a ring for each line so far
abbrev pub invariant-loop-line : goal.invariant-loop-line
invariant-loop-line l = l.rings ≡ map (λ line. line.points) l.yielded
