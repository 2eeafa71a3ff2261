use Rattle.ps_laws.proofs.FramedRunning.{framed_kept}
use Rattle.ps_laws.proofs.laws.frames_kept.Goals as goal

pub returns : goal.returns
returns c = framed_kept
