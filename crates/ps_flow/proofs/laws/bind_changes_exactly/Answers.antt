use Rattle.ps_flow.proofs.BindLemmas.{binds_exactly}
use Rattle.ps_flow.proofs.laws.bind_changes_exactly.Goals as goal

pub returns : goal.returns
returns c = binds_exactly
