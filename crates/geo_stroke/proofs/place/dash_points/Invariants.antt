use Rattle.std.proofs.Common.{◌≡◌, ◌≤◌, ◌∷◌, ◌++◌, length}
use Rattle.std.specs.List.{All}
use Rattle.geo_matrix.specs.Affine.{IsNear}
use Rattle.geo_stroke.specs.Dash.{dash_points, total_of}
use Rattle.geo_stroke.proofs.PlaceLemmas.{points_left}
use Rattle.geo_stroke.proofs.place.dash_points.Given as goal

-- the points so far, and those that are left, are all of them
abbrev pub invariant-loop-next : goal.invariant-loop-next
invariant-loop-next l = record {
  points : dash_points l.fn.first l.rest l.from l.to ≡ l.points ++ points_left l.here l.behind l.start l.end;
  near : All IsNear l.points;
  within : l.end ≤ total_of (l.here ∷ l.behind);
}

abbrev pub decreases-loop-next : goal.decreases-loop-next
decreases-loop-next l = length l.behind
