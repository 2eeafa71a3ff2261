use Rattle.std.proofs.lemmas.Result.{err_from_is_err_and}
use Rattle.list_codec.specs.Code.Reading.{many_at, ring_at}
use Rattle.list_codec.proofs.Loops.{goes_on, ends, is_done}
use Rattle.list_codec.proofs.spare.Spare.rings_in.Goals as goal

pub returns-in_err-ring : goal.returns-in_err-ring
returns-in_err-ring c =
    let p = err_from_is_err_and c.from_residual-in_err-ring.result c.from_residual-in_err-ring.ensures.1 in
    rw (p.1, p.2)
    (ends ring_at c.in_err-ring.field-0.0 c.loop.rings c.args.count c.loop.counter c.loop.rest.now
    (many_at ring_at c.args.count c.args.bytes.now) c.loop-test.true c.in_err-ring.ensures c.loop.invariant)

pub loop-preserved : goal.loop-preserved
loop-preserved c =
    rw c.in_ok-push.ensures.ok
    (goes_on ring_at c.loop.rings c.args.count c.loop.counter c.loop.rest.now c.in_ok-ring.ring c.in_ok-ring.after.now
    (many_at ring_at c.args.count c.args.bytes.now) c.loop-test.true c.in_ok-ring.ensures c.loop.invariant)

pub returns : goal.returns
returns c =
    is_done ring_at c.loop.rings c.args.count c.loop.counter c.loop.rest.now
    (many_at ring_at c.args.count c.args.bytes.now)
    c.loop-test.false c.loop.invariant
