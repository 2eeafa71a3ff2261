use Rattle.ps_laws.proofs.Running.{kept}
use Rattle.ps_laws.proofs.laws.limits_kept.Goals as goal

pub returns : goal.returns
returns c = kept
