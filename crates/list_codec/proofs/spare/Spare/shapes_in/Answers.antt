use Rattle.std.proofs.lemmas.Result.{err_from_is_err_and}
use Rattle.list_codec.specs.Code.Reading.{many_at, shape_at}
use Rattle.list_codec.proofs.Loops.{goes_on, ends, is_done}
use Rattle.list_codec.proofs.spare.Spare.shapes_in.Goals as goal

pub returns-in_err-shape : goal.returns-in_err-shape
returns-in_err-shape c =
    let p = err_from_is_err_and c.from_residual.result c.from_residual.ensures.1 in
    rw (p.1, p.2)
    (ends shape_at c.in_err-shape.field-0.0 c.loop.shapes c.args.count c.loop.counter c.loop.rest.now
    (many_at shape_at c.args.count c.args.bytes.now) c.loop-test.true c.in_err-shape.ensures c.loop.invariant)

pub loop-preserved : goal.loop-preserved
loop-preserved c =
    rw c.in_ok-push.ensures.ok
    (goes_on shape_at c.loop.shapes c.args.count c.loop.counter c.loop.rest.now c.in_ok-shape.shape
    c.in_ok-shape.after.now
    (many_at shape_at c.args.count c.args.bytes.now) c.loop-test.true c.in_ok-shape.ensures c.loop.invariant)

pub returns : goal.returns
returns c =
    is_done shape_at c.loop.shapes c.args.count c.loop.counter c.loop.rest.now
    (many_at shape_at c.args.count c.args.bytes.now)
    c.loop-test.false c.loop.invariant
