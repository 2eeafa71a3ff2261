use Rattle.std.proofs.Common.{◌<◌, length, arith}
use Rattle.ps_store.proofs.Tops.{repeat_step}
use Rattle.ps_store.proofs.stack.repeat_from.Goals as goal

pub loop-at-preserved : goal.loop-at-preserved
loop-at-preserved c =
    let below : c.loop-at.at < length c.args.items.now.items =
    omega (arith, c.loop-at-test.true, c.len-end.ensures.value) in
    repeat_step _ _ _ _ c.args.from c.loop-at.at _ c.loop-at.invariant c.loop-at.auto.at below c.deref.ensures.0
    (rw c.again-o.ensures c.index-deref-at.is) c.push.ensures.items
