use Rattle.std.proofs.Common.{◌≡◌, ◌+◌, ◌-◌, ◌&&◌, Some}
use Rattle.page_model.specs.Cover.{shape_holds}
use Rattle.geo_fill.specs.Walk.{Walks}
use Rattle.geo_clip.specs.Mask.{is_open}
use Rattle.list_player.specs.Painting.{given_where, ArePainted}
use Rattle.list_player.proofs.rows.put_walk.Given as goal

-- the rows so far are painted, and the walk is at the next one
abbrev pub invariant-loop-i : goal.invariant-loop-i
invariant-loop-i g l = record {
  walks : Walks l.fn.shape l.fn.rule (l.fn.first + l.i) (l.fn.reached.end - l.i) l.walk;
  painted : ArePainted l.fn.first l.i (λ row col. given_where (Some l.initial.ink)
      (shape_holds l.fn.rule row col l.fn.shape && is_open l.clip.regions row col)) l.initial.rows.items l.rows.items;
  same : l.ink ≡ l.initial.ink;
}
