use Rattle.std.proofs.Common.{◌≡◌, length}
use Rattle.geo_clip.proofs.band.BandRows.new.Given as goal

-- so many rows so far
abbrev pub invariant-loop-row : goal.invariant-loop-row
invariant-loop-row l = length l.band.items ≡ l._row
