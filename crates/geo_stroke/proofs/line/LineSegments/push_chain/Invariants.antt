use Rattle.std.proofs.Common.{◌≡◌, ◌++◌, drop}
use Rattle.geo_matrix.specs.Affine.{IsNear}
use Rattle.geo_stroke.specs.Segment.{between, closing, segment_between}
use Rattle.geo_stroke.proofs.line.LineSegments.push_chain.Given as goal

-- the segments so far, and those through the points that are left, are all of them
abbrev pub invariant-loop-point : goal.invariant-loop-point
invariant-loop-point l = record {
  segments :
      l.fn.self ++ between segment_between l.first (l.rest ++ closing l.closed l.first)
      ≡ l.self ++ between segment_between l.at (drop l.point-index l.rest ++ closing l.closed l.first);
  near : IsNear l.at;
}
