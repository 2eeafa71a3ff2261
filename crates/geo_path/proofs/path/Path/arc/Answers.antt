use Rattle.std.proofs.Common.{subst, ℕ, ◌≤◌, length}
use Rattle.geo_path.proofs.PointLemmas.{whole_arc}
use Rattle.geo_path.proofs.path.Path.arc.Goals as goal

pub trace-requires-clause-some : goal.trace-requires-clause-some
trace-requires-clause-some c = (whole_arc
    (record { m = c.args.m.now; x = c.args.x; y = c.args.y; r = c.args.r }) c.args.clockwise c.args.from c.in-Some.to
    c.new.result c.room.result
    c.in-Ok-points.points.items c.deref.result.now c.new.ensures c.in-Ok-points.ensures.ok c.deref.ensures.value).0

pub trace-requires-clause-few : goal.trace-requires-clause-few
trace-requires-clause-few c = subst (λ (n : ℕ). length c.deref.result.now ≤ n) c.room.ensures
    (whole_arc (record { m = c.args.m.now; x = c.args.x; y = c.args.y; r = c.args.r }) c.args.clockwise c.args.from
    c.in-Some.to c.new.result c.room.result
    c.in-Ok-points.points.items c.deref.result.now c.new.ensures c.in-Ok-points.ensures.ok c.deref.ensures.value).1
