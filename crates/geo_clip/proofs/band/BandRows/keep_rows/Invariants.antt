use Rattle.std.proofs.Common.{◌≡◌, ◌+◌, ◌-◌, length, take}
use Rattle.page_model.specs.declared.shape.Shape.TheVariants.{Poly}
use Rattle.geo_fill.specs.Walk.{Walks}
use Rattle.geo_clip.specs.Code.Rows.{ShowRows, ShowRowsFrom}
use Rattle.geo_clip.proofs.band.BandRows.keep_rows.Given as goal

-- the rows so far show one region more, and the walk is at the next one
abbrev pub invariant-loop-i : goal.invariant-loop-i
invariant-loop-i l = record {
  size : length l.self-inside.rows.items ≡ l.rows;
  walks : Walks (Poly l.fn.region.rings) l.fn.region.rule (l.fn.first + l.i) (l.rows - l.i) l.walk;
  shown : ShowRows l.self-inside.rows.items l.width l.fn.first l.i (take (l.fn.at + 1) l.fn.regions);
  later : ShowRowsFrom l.self-inside.rows.items l.width l.fn.first l.i l.rows (take l.fn.at l.fn.regions);
}
