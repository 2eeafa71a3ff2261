use Rattle.ps_laws.proofs.Running.{opening_limited}
use Rattle.ps_laws.proofs.laws.limits_at_start.Goals as goal

pub returns : goal.returns
returns c = opening_limited
