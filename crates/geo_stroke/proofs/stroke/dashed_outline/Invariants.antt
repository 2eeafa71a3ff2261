use Rattle.std.proofs.Common.{◌≡◌, take}
use Rattle.std.specs.List.{flat_map}
use Rattle.geo_stroke.specs.Dash.{dashed_shapes}
use Rattle.geo_stroke.proofs.stroke.dashed_outline.Given as goal

-- the shapes of the lines so far
abbrev pub invariant-loop-line : goal.invariant-loop-line
invariant-loop-line l = l.shapes ≡ flat_map (dashed_shapes l.pen) (take l.line-index l.line-items)
