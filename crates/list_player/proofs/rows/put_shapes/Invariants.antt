use Rattle.std.proofs.Common.{◌≡◌, ◌&&◌, take, Some}
use Rattle.std.specs.List.{list_any}
use Rattle.page_model.specs.Cover.{shape_holds}
use Rattle.geo_clip.specs.Mask.{is_open}
use Rattle.list_player.specs.Painting.{given_where, ArePainted}
use Rattle.list_player.proofs.rows.put_shapes.Given as goal

-- the shapes so far are painted
abbrev pub invariant-loop-shape : goal.invariant-loop-shape
invariant-loop-shape g l = record {
  painted : ArePainted l.clip.first l.clip.rows (λ row col. given_where (Some l.initial.ink)
      (list_any (shape_holds l.rule row col) (take l.shape-index l.shapes) && is_open l.clip.regions row col))
      l.initial.rows.items l.rows.items;
  same : l.ink ≡ l.initial.ink;
}
