use Rattle.std.proofs.Common.{◌≡◌, ◌++◌, take}
use Rattle.std.specs.List.{flat_map}
use Rattle.geo_stroke.specs.Dash.{dash_shapes}
use Rattle.geo_stroke.specs.Code.Cursor.{IsCursor}
use Rattle.geo_stroke.proofs.dashed.push_dashes.Given as goal

-- the shapes of the dashes so far
abbrev pub invariant-loop-dash : goal.invariant-loop-dash
invariant-loop-dash l = record {
  shapes : l.shapes ≡ l.fn.shapes ++ flat_map (dash_shapes l.pen l.first l.all) (take l.dash-index l.dashes);
  cursor : IsCursor l.first l.all l.here l.rest l.passed;
}
