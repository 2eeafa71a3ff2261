use Rattle.geo_path.proofs.FlatLemmas.{flat_points_near}
use Rattle.geo_path.proofs.flat.flatten_subpath.Goals as goal

pub returns-clause-near : goal.returns-clause-near
returns-clause-near c = flat_points_near c.in_ok-points.points c.args.s.now c.in_ok-points.ensures
    c.segments-segments.ensures.near
