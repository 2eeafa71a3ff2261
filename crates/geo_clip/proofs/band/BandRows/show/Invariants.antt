use Rattle.std.proofs.Common.{◌≡◌, length, take}
use Rattle.geo_clip.specs.Code.Rows.{ShowRows}
use Rattle.geo_clip.proofs.band.BandRows.show.Given as goal

-- the band shows the regions so far
abbrev pub invariant-loop-at : goal.invariant-loop-at
invariant-loop-at l = record {
  size : length l.self ≡ l.rows;
  shown : ShowRows l.self l.width l.first l.rows (take l.at l.regions);
}
