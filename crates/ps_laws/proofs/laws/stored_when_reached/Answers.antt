use Rattle.ps_laws.proofs.StoredRunning.{reached_stored}
use Rattle.ps_laws.proofs.laws.stored_when_reached.Goals as goal

pub returns : goal.returns
returns c = reached_stored
