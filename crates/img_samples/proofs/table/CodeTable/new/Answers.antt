use Rattle.std.proofs.Common.{◌∙◌}
use Rattle.img_samples.proofs.Tables.{are_copied}
use Rattle.img_samples.proofs.table.CodeTable.new.Goals as goal

pub returns : goal.returns
returns c = record {
  codes = c.in_ok-codes.ensures.codes;
  eight = c.does_copy-copies.ensures.eight;
  copies = λ yes. are_copied c.args.format.now c.as_slice.result.now
      (c.as_slice.ensures.value ∙ c.in_ok-codes.ensures.codes) (c.does_copy-copies.ensures.copies yes);
}
