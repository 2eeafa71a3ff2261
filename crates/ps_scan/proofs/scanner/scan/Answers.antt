use Rattle.ps_scan.proofs.Bounds.{found_bounded}
use Rattle.ps_scan.proofs.scanner.scan.Goals as goal

pub returns-in-Ok-clause-limits : goal.returns-in-Ok-clause-limits
returns-in-Ok-clause-limits c = found_bounded _ _ _ _ _ _ c.blank_front-blank.ensures.value c.split_at.ensures.back
    c.in-Ok.ensures.ok
