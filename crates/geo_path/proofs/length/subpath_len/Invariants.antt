use Rattle.std.proofs.Common.{◌≡◌, ◌+◌, ◌*◌, ◌≤◌, drop, take, length}
use Rattle.std.specs.List.{sum_by}
use Rattle.geo_path.specs.Path.{segment_count}
use Rattle.geo_path.specs.Flat.{added_from}
use Rattle.geo_path.proofs.length.subpath_len.Given as goal

-- the points so far, and those that the segments left will add, are those of the subpath
abbrev pub invariant-loop-segment : goal.invariant-loop-segment
invariant-loop-segment l = record {
  points : 1 + length (added_from l.s.start l.s.segments) ≡ l.points
      + length (added_from l.at (drop l.segment-index l.s.segments));
  few : l.points ≤ 22 * (1 + sum_by segment_count (take l.segment-index l.s.segments));
}
