use Rattle.std.proofs.Common.{◌∷◌}
use Rattle.geo_stroke.specs.Dash.{total_of}
use Rattle.geo_stroke.proofs.WithinLemmas.{list_within}
use Rattle.geo_stroke.proofs.dashed.push_pattern.Goals as goal

pub push_dashes-requires : goal.push_dashes-requires
push_dashes-requires c =
    list_within c.pen_phase.result c.total.result
    (total_of (c.args.first ∷ c.args.rest.now)) c.items.result.now c.as_slice.result.now c.in_ok-dashes.dashes.items
    c.total.ensures.value c.as_slice.ensures.value c.in_ok-dashes.ensures
