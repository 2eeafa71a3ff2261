use Rattle.std.proofs.Common.{◌≡◌, ◌∷◌, ◌++◌, drop}
use Rattle.geo_matrix.specs.Affine.{IsNear}
use Rattle.geo_path.specs.Flat.{added_from}
use Rattle.geo_path.proofs.flat.points_of.Given as goal

-- the points so far, and those that the segments left will add, are those of the subpath
abbrev pub invariant-loop-segment : goal.invariant-loop-segment
invariant-loop-segment l = record {
  points : l.s.start ∷ added_from l.s.start l.s.segments ≡ l.points
      ++ added_from l.at (drop l.segment-index l.s.segments);
  near : IsNear l.at;
}
