use Rattle.ps_scan.proofs.Unique.{only_read}
use Rattle.ps_scan.proofs.laws.only_scanned_is_read.Goals as goal

pub returns : goal.returns
returns c = only_read
