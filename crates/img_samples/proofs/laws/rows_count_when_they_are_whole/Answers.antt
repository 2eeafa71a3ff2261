use Rattle.img_samples.proofs.Feeding.{whole_row, kept}
use Rattle.img_samples.proofs.laws.rows_count_when_they_are_whole.Goals as goal

pub returns-clause-whole : goal.returns-clause-whole
returns-clause-whole c = whole_row

pub returns-clause-part : goal.returns-clause-part
returns-clause-part c = kept
