use Rattle.ps_laws.proofs.StoredRunning.{opening_stored}
use Rattle.ps_laws.proofs.laws.stored_at_start.Goals as goal

pub returns : goal.returns
returns c = opening_stored
