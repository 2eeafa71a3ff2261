use Rattle.geo_stroke.specs.Dash.{dash_points}
use Rattle.geo_stroke.proofs.PlaceLemmas.{points_begin, points_done}
use Rattle.geo_stroke.proofs.place.dash_points.Goals as goal

pub loop-next-init : goal.loop-next-init
loop-next-init c = record {
  points = points_begin c.args.first c.args.rest.now c.args.from c.args.to c.push_near.new.points c.new-points.result
      c.point_at.result
      c.requires.from c.new-points.ensures c.point_at.ensures.value c.in_ok-push_near.ensures.ok;
  near = c.in_ok-push_near.ensures.near;
  within = c.requires.to;
}

pub returns-clause-value : goal.returns-clause-value
returns-clause-value c =
    points_done c.loop-next.here c.loop-next.behind.now c.loop-next.start c.loop-next.end
    (dash_points c.args.first c.args.rest.now c.args.from c.args.to) c.loop-next.points c.push_near-2.new.points
    c.point_at-2.result
    c.in_default.ensures c.loop-next.invariant.points c.point_at-2.ensures.value c.in_ok-push_near-2.ensures.ok
