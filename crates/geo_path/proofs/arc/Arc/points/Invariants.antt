use Rattle.std.proofs.Common.{◌≡◌}
use Rattle.std.specs.List.{All}
use Rattle.geo_matrix.specs.Affine.{IsNear}
use Rattle.geo_path.specs.Code.Points.{points_from, put_all}
use Rattle.geo_path.proofs.arc.Arc.points.Given as goal

-- the points so far, and those that are left, are all of them
abbrev pub invariant-loop-i : goal.invariant-loop-i
invariant-loop-i l = record {
  points : points_from l.self.circle l.self.angles l.self.room 0
      ≡ put_all l.points.items (points_from l.self.circle l.self.angles l.self.room l.i);
  near : All IsNear l.points.items;
}
