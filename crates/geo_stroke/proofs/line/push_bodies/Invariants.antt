use Rattle.std.proofs.Common.{◌≡◌, ◌++◌, map, take}
use Rattle.geo_stroke.specs.Outline.{body}
use Rattle.geo_stroke.proofs.line.push_bodies.Given as goal

-- the bodies of the segments so far
abbrev pub invariant-loop-segment : goal.invariant-loop-segment
invariant-loop-segment l = l.shapes ≡ l.fn.shapes ++ map (body l.pen.half) (take l.segment-index l.segments)
