use Rattle.std.proofs.Common.{arith}
use Rattle.link_build.proofs.Tables.{fill_more}
use Rattle.link_build.proofs.back.fill.Goals as goal

pub loop-codes-preserved : goal.loop-codes-preserved
loop-codes-preserved c = rw c.in_ok-push.ensures.items
    (fill_more c.args.curve.now c.loop-codes.codes.items c.loop-codes.invariant
    (let few = c.loop-codes-test.true in let count = c.len.ensures in let same = c.loop-codes.codes.ok in
    omega (arith, few, count, same)))
