use Rattle.std.proofs.Common.{rules, ◌≤◌, false, slice_index_or, ap, ◌∙◌}
use Rattle.geo_stroke.specs.declared.dash.Dash.{Dash}
use Rattle.geo_stroke.specs.Dash.{dash_shapes}
use Rattle.geo_stroke.proofs.PlaceLemmas.{dash_ahead, dashes_next}
use Rattle.geo_stroke.proofs.dashed.push_dashes.Goals as goal

pub loop-dash-preserved : goal.loop-dash-preserved
loop-dash-preserved c =
    let dash : Dash = slice_index_or c.args.dashes.now c.loop-dash.dash-index
    (record { from = 0; to = 0; is_dot = false }) in
    let order : dash.from ≤ dash.to = search rules in
    let e = dash_ahead c.args.pen.now c.args.first c.seek-cursor.result.here c.args.all.now
    c.seek-cursor.result.rest.now c.seek-cursor.result.passed dash c.seek-cursor.ensures.ahead order in
    record {
      shapes = dashes_next (dash_shapes c.args.pen.now c.args.first c.args.all.now) c.args.dashes.now
          c.loop-dash.dash-index (record { from = 0; to = 0; is_dot = false }) _ _ _ _
          (search rules) c.loop-dash.invariant.shapes c.in_ok-push_dash.ensures.ok
          (ap (dash_shapes c.args.pen.now c.seek-cursor.result.here c.seek-cursor.result.rest.now)
          c.later_by.ensures ∙ e);
      cursor = c.seek-cursor.ensures.cursor;
    }
