use Rattle.std.proofs.Common.{sym}
use Rattle.press_nums.proofs.RootLemmas.{cube_is}
use Rattle.icc_read.proofs.content.cube.Goals as goal

pub returns-clause-value : goal.returns-clause-value
returns-clause-value c = sym (cube_is c.args.grid)
