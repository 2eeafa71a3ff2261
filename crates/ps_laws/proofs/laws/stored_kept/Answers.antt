use Rattle.ps_laws.proofs.StoredRunning.{stored_kept}
use Rattle.ps_laws.proofs.laws.stored_kept.Goals as goal

pub returns : goal.returns
returns c = stored_kept
