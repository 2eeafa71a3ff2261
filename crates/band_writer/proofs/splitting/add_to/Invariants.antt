use Rattle.std.proofs.Common.{◌≡◌}
use Rattle.band_writer.specs.Code.Drafts.{IsAdded}
use Rattle.band_writer.proofs.Working.{is_from_to}
use Rattle.band_writer.proofs.splitting.add_to.Given as goal

-- the drafts of the bands so far have the mark
abbrev pub invariant-loop-band : goal.invariant-loop-band
invariant-loop-band l = IsAdded (is_from_to l.from l.band) l.mark l.painted l.initial.drafts.items l.drafts.items
