use Rattle.std.proofs.Common.{◌≡◌, replicate}
use Rattle.band_writer.specs.Code.Drafts.{empty_draft}
use Rattle.band_writer.proofs.splitting.empty_drafts.Given as goal

-- so many drafts without commands
abbrev pub invariant-loop-band : goal.invariant-loop-band
invariant-loop-band l = l.drafts.items ≡ replicate l._band empty_draft
