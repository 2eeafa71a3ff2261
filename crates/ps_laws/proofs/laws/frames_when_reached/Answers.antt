use Rattle.ps_laws.proofs.FramedRunning.{reached_framed}
use Rattle.ps_laws.proofs.laws.frames_when_reached.Goals as goal

pub returns : goal.returns
returns c = reached_framed
