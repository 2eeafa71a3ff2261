use Rattle.img_samples.proofs.Tables.{one_code_more}
use Rattle.img_samples.proofs.table.table_codes.Goals as goal

pub loop-k-preserved : goal.loop-k-preserved
loop-k-preserved c =
    one_code_more c.args.format.now c.loop-k.codes.items c.push.new.self.items c.loop-k.k c.levels-levels.result
    c.sample_code.result c.levels-levels.ensures.value c.loop-k.invariant c.in_ok-push.ensures.items
    c.sample_code.ensures
