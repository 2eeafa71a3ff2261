use Rattle.std.proofs.Common.{◌≡◌, drop}
use Rattle.geo_stroke.specs.Segment.{last_of}
use Rattle.geo_stroke.proofs.line.last.Given as goal

-- the last of those that are left is the last of all
abbrev pub invariant-loop-segment : goal.invariant-loop-segment
invariant-loop-segment l = last_of l.fn.first l.rest ≡ last_of l.at (drop l.segment-index l.rest)
