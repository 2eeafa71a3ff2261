use Rattle.ps_laws.proofs.FramedRunning.{opening_framed}
use Rattle.ps_laws.proofs.laws.frames_at_start.Goals as goal

pub returns : goal.returns
returns c = opening_framed
