use Rattle.std.proofs.Common.{◌≡◌, ◌++◌, map}
use Rattle.std.specs.List.{range_with_len}
use Rattle.geo_path.specs.Curve.{curve_spot}
use Rattle.geo_path.proofs.curve.push_curve.Given as goal

-- the ends of the first `i` pieces are there
abbrev pub invariant-loop-i : goal.invariant-loop-i
invariant-loop-i l = l.ring ≡ l.initial.ring ++ map (curve_spot l.n l.c.p0 l.c.p1 l.c.p2 l.c.p3) (range_with_len 1 l.i)
