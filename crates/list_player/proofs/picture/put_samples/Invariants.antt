use Rattle.std.proofs.Common.{get_or}
use Rattle.geo_fill.specs.Spans.{is_in}
use Rattle.img_map.specs.declared.row.Pick.TheVariants.{Outside}
use Rattle.img_map.specs.Picks.{picked}
use Rattle.list_player.specs.Painting.{given_where, sample_dot, IsPainted}
use Rattle.list_player.specs.Code.Steps.{lent_dot, code_dot}
use Rattle.list_player.specs.Memo.{Remembers}
use Rattle.list_player.proofs.picture.put_samples.Given as goal

-- the columns so far have the dots of their samples
abbrev pub invariant-loop-col : goal.invariant-loop-col
invariant-loop-col g l = record {
  put : IsPainted (λ col. given_where (sample_dot (code_dot g.T.Dot.dot g.T.Dot.depth (g.L.Lent.colour l.loan)
      (g.L.Lent.wide l.loan) l.image.source)
      l.image (picked (get_or l.picks.items col Outside)))
      (is_in l.fn.from l.col col)) l.initial.row.items l.row.items;
  memo : Remembers (lent_dot g.T.Dot.dot g.T.Dot.depth (g.L.Lent.colour l.loan) (g.L.Lent.wide l.loan))
      l.memo.told.items;
}
