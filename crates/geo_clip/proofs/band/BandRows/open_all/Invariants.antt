use Rattle.std.proofs.Common.{◌≡◌, [], length}
use Rattle.geo_clip.specs.Code.Rows.{ShowRows}
use Rattle.geo_clip.proofs.band.BandRows.open_all.Given as goal

-- the rows so far are open
abbrev pub invariant-loop-i : goal.invariant-loop-i
invariant-loop-i l = record {
  size : length l.self-inside.rows.items ≡ l.rows;
  shown : ShowRows l.self-inside.rows.items l.width l.first l.i [];
}
