use Rattle.ps_scan.proofs.Consumed.{end_again}
use Rattle.ps_scan.proofs.laws.end_stays.Goals as goal

pub returns : goal.returns
returns c = end_again
