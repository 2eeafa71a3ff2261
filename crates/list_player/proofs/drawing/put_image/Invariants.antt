use Rattle.std.proofs.Common.{◌≡◌, length}
use Rattle.page_model.specs.Sample.{sample_at}
use Rattle.geo_clip.specs.Mask.{is_open}
use Rattle.list_player.specs.Painting.{given_where, sample_dot, mask_dot, ArePainted}
use Rattle.list_player.specs.Memo.{Remembers}
use Rattle.list_player.specs.Code.Steps.{lent_dot, code_dot}
use Rattle.list_player.proofs.drawing.put_image.Given as goal

-- the rows so far have the dots of their samples
abbrev pub invariant-loop-i : goal.invariant-loop-i
invariant-loop-i g l = record {
  painted : ArePainted l.clip.first l.i (λ row col. given_where
      (sample_dot (code_dot g.T.Dot.dot g.T.Dot.depth (g.L.Lent.colour l.loan) (g.L.Lent.wide l.loan) l.image.source)
      l.image (sample_at l.image row col)) (is_open l.clip.regions row col)) l.initial.rows.items l.rows.items;
  size : length l.picks.items ≡ l.clip.width;
  memo : Remembers (lent_dot g.T.Dot.dot g.T.Dot.depth (g.L.Lent.colour l.loan) (g.L.Lent.wide l.loan))
      l.memo.told.items;
}
