use Rattle.geo_stroke.specs.Dash.{cycle_dashes, dashes_by}
use Rattle.std.proofs.Common.{◌+◌, ◌*◌}
use Rattle.geo_stroke.proofs.DashLemmas.{later, later_next, step_on}
use Rattle.geo_stroke.proofs.dash.dashes_on.Goals as goal

pub loop-k-preserved : goal.loop-k-preserved
loop-k-preserved c =
    let e = later_next c.args.line.phase c.args.line.total c.args.dashes.now c.loop-k.k c.cycles-k-end.result
    c.cycle_length-cycle.result
    c.cycle_length-cycle.ensures.value c.cycles-k-end.ensures.value c.loop-k-test.true in
    step_on (dashes_by c.args.line.phase c.args.line.total c.args.dashes.now) c.loop-k.list.items
    c.push_cycle.new.list.items
    (cycle_dashes c.args.line.phase c.args.line.total c.args.dashes.now (c.loop-k.k * c.cycle_length-cycle.result))
    (later c.args.line.phase c.args.line.total c.args.dashes.now c.loop-k.k)
    (later c.args.line.phase c.args.line.total c.args.dashes.now (c.loop-k.k + 1))
    c.loop-k.invariant e c.in_ok-push_cycle.ensures
