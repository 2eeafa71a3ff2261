use Rattle.std.proofs.Common.{◌≡◌, ◌++◌, drop}
use Rattle.geo_stroke.specs.Segment.{between, closing}
use Rattle.geo_stroke.specs.Corner.{join_shapes}
use Rattle.geo_stroke.proofs.line.push_joins.Given as goal

-- the joins so far, and those of the segments that are left, are all of them
abbrev pub invariant-loop-segment : goal.invariant-loop-segment
invariant-loop-segment l =
    l.fn.shapes ++ between (join_shapes l.pen) l.first (l.rest ++ closing l.closed l.first)
    ≡ l.shapes ++ between (join_shapes l.pen) l.at (drop l.segment-index l.rest ++ closing l.closed l.first)
