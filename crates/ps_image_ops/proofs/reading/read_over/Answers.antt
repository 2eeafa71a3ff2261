use Rattle.std.proofs.Common.{arith}
use Rattle.ps_image_ops.proofs.Over.{all_read, once_more}
use Rattle.ps_image_ops.specs.Reading.{read_over}
use Rattle.ps_image_ops.proofs.reading.read_over.Goals as goal

pub loop-reading-preserved : goal.loop-reading-preserved
loop-reading-preserved c =
    once_more c.loop-reading.reading c.read.new.self (read_over c.args.reading.now c.args.bytes.now) c.args.bytes.now
    c.loop-reading.invariant c.in_ok-read.ensures.ok (grind arith)

pub returns : goal.returns
returns c =
    all_read c.loop-reading.reading (read_over c.args.reading.now c.args.bytes.now) c.args.bytes.now
    c.loop-reading.invariant (grind arith)
