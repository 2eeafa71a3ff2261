use Rattle.std.proofs.Common.{◌≡◌, ◌+◌, ◌*◌, ◌^◌, ◌≤◌, ◌++◌, drop, length}
use Rattle.geo_matrix.specs.Affine.{IsNear}
use Rattle.geo_stroke.specs.Segment.{between, closing, segment_between}
use Rattle.geo_stroke.specs.Dash.{total_of}
use Rattle.geo_stroke.proofs.dashed.sizes_through.Given as goal

-- the segments so far, and those through the points that are left, are all of them
abbrev pub invariant-loop-point : goal.invariant-loop-point
invariant-loop-point l = record {
  count :
      length (between segment_between l.first (l.rest ++ closing l.closed l.first))
      ≡ l.sizes.count + length (between segment_between l.at (drop l.point-index l.rest ++ closing l.closed l.first));
  total :
      total_of (between segment_between l.first (l.rest ++ closing l.closed l.first))
      ≡ l.sizes.total + total_of (between segment_between l.at (drop l.point-index l.rest ++ closing l.closed l.first));
  near : IsNear l.at;
  few : l.sizes.count ≤ l.point-index;
  bound : l.sizes.total ≤ l.point-index * 2 ^ 41;
}
