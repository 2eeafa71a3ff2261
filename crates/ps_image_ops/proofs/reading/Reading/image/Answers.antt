use Rattle.std.proofs.Common.{ap, length, arith}
use Rattle.ps_image_ops.proofs.Whole.{is_image}
use Rattle.ps_image_ops.proofs.reading.Reading.image.Goals as goal

pub invariant_of-result : goal.invariant_of-result
invariant_of-result c =
    is_image c.width-width.result c.rows-rows.result c.channels.result c.finish.result c.channels.ensures.there
    (rw (c.width-width.ensures, c.channels.ensures.value, c.rows-rows.ensures) c.finish.ensures.size)
    (let same = ap length c.finish.ensures.value in
    omega (arith, same, c.codes-codes.ensures.count, c.codes-codes.ensures.few))
