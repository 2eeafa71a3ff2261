use Rattle.ps_scan.proofs.Unique.{is_read}
use Rattle.ps_scan.proofs.laws.scanned_is_read.Goals as goal

pub returns : goal.returns
returns c = is_read
