use Rattle.std.proofs.Common.{sym, ap, ◌*◌, ◌∙◌}
use Rattle.icc_tables.proofs.Corners.{next_power}
use Rattle.icc_read.proofs.content.fourth.Goals as goal

pub returns-clause-value : goal.returns-clause-value
returns-clause-value c = ap (λ n. n * c.args.grid) c.cube.ensures.value ∙ sym (next_power c.args.grid 3)
