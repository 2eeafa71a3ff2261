use Rattle.std.proofs.Common.{arith}
use Rattle.geo_stroke.proofs.DashLemmas.{later_length}
use Rattle.geo_stroke.proofs.dash.room_behind.Goals as goal

pub loop-k-preserved : goal.loop-k-preserved
loop-k-preserved c =
    let e = later_length c.args.line.phase c.args.line.total c.args.dashes.now c.loop-k.k c.cycles-k-end.result
    c.cycle_length-cycle.result
    c.cycle_length-cycle.ensures.value c.cycles-k-end.ensures.value c.loop-k-test.true in
    omega (arith, c.loop-k.invariant, c.count_cycle-count.ensures.value)
