use Rattle.std.proofs.Common.{arith}
use Rattle.img_samples.proofs.Feeding.{row_ends}
use Rattle.img_samples.proofs.rows.end_row.Goals as goal

pub returns-clause-state : goal.returns-clause-state
returns-clause-state c =
    row_ends c.args.format.now c.args.rows.now.count c.args.rows.now.codes.items c.add_whole.new.codes.items
    c.args.rows.now.part.items c.add_whole.new.part.items c.args.bytes.now c.split_at.result.0.now
    c.split_at.result.1.now c.split_at.ensures.by_index.0 (omega arith)
    (omega (arith, c.args.rows.now.part.ok.0)) c.add_whole.ensures.items c.add_whole.ensures.part
