use Rattle.ps_laws.proofs.Running.{same_meaning}
use Rattle.ps_laws.proofs.laws.more_steps_change_nothing.Goals as goal

pub returns : goal.returns
returns c = same_meaning
