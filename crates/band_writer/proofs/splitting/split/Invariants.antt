use Rattle.std.proofs.Common.{take}
use Rattle.band_writer.specs.Code.Working.{IsUnderWay}
use Rattle.band_writer.proofs.splitting.split.Given as goal

-- the page after the marks so far
abbrev pub invariant-loop-mark : goal.invariant-loop-mark
invariant-loop-mark l = IsUnderWay l.page.height l.height (take l.mark-index l.page.marks) l.work
