use Rattle.ps_laws.proofs.Running.{reached_limited}
use Rattle.ps_laws.proofs.laws.limits_when_reached.Goals as goal

pub returns : goal.returns
returns c = reached_limited
