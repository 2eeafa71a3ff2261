use Rattle.ps_laws.proofs.Running.{program_ends}
use Rattle.ps_laws.proofs.laws.programs_end.Goals as goal

pub returns : goal.returns
returns c = program_ends
