use Rattle.std.proofs.Common.{◌≤◌, ◌-◌, ◌&&◌, get_or}
use Rattle.geo_fill.specs.Spans.{is_in}
use Rattle.geo_clip.specs.Mask.{is_open}
use Rattle.img_map.specs.declared.row.Pick.TheVariants.{Outside}
use Rattle.img_map.specs.Picks.{picked}
use Rattle.list_player.specs.Painting.{given_where, sample_dot, IsPainted}
use Rattle.list_player.specs.Code.Steps.{lent_dot, code_dot}
use Rattle.list_player.specs.Memo.{Remembers}
use Rattle.list_player.proofs.row.DotRow.put_open_samples.Given as goal

-- the open columns so far have the dots of their samples
abbrev pub invariant-loop-run : goal.invariant-loop-run
invariant-loop-run g l = record {
  put : IsPainted (λ col. given_where (sample_dot (code_dot g.T.Dot.dot g.T.Dot.depth (g.L.Lent.colour l.loan)
      (g.L.Lent.wide l.loan) l.image.source)
      l.image (picked (get_or l.picks.items col Outside)))
      (is_in 0 l.from col && is_open l.mask.regions l.row col)) l.initial.self l.self;
  within : l.from ≤ l.width;
  memo : Remembers (lent_dot g.T.Dot.dot g.T.Dot.depth (g.L.Lent.colour l.loan) (g.L.Lent.wide l.loan))
      l.memo.told.items;
}

-- the columns that are left
abbrev pub decreases-loop-run : goal.decreases-loop-run
decreases-loop-run g l = l.width - l.from
