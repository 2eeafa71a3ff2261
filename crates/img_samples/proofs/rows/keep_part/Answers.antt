use Rattle.std.proofs.Common.{arith}
use Rattle.img_samples.proofs.Feeding.{kept_so}
use Rattle.img_samples.proofs.rows.keep_part.Goals as goal

pub returns-clause-state : goal.returns-clause-state
returns-clause-state c =
    kept_so c.args.format.now c.args.rows.now.count c.args.rows.now.codes.items c.args.rows.now.part.items
    c.append.new.to.items c.args.bytes.now c.append.ensures.items (omega (arith, c.args.rows.now.part.ok.0))
