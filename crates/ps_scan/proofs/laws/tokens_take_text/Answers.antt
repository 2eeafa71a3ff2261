use Rattle.ps_scan.proofs.Consumed.{scanned_shorter}
use Rattle.ps_scan.proofs.laws.tokens_take_text.Goals as goal

pub returns : goal.returns
returns c = scanned_shorter
