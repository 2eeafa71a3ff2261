use Rattle.ps_scan.proofs.Bounds.{scanned_bounded}
use Rattle.ps_scan.proofs.laws.tokens_are_within_limits.Goals as goal

pub returns : goal.returns
returns c = scanned_bounded
