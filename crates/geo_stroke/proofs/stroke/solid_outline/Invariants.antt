use Rattle.std.proofs.Common.{◌≡◌, take}
use Rattle.std.specs.List.{flat_map}
use Rattle.geo_stroke.specs.Outline.{line_shapes}
use Rattle.geo_stroke.proofs.stroke.solid_outline.Given as goal

-- the shapes of the lines so far
abbrev pub invariant-loop-line : goal.invariant-loop-line
invariant-loop-line l = l.shapes ≡ flat_map (line_shapes l.pen) (take l.line-index l.line-items)
