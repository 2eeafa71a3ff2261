use Rattle.std.proofs.Common.{◌≡◌, ◌≤◌, ◌-◌, ◌&&◌, Some}
use Rattle.geo_fill.specs.Spans.{is_in}
use Rattle.geo_clip.specs.Mask.{is_open}
use Rattle.list_player.specs.Painting.{given_where, IsPainted}
use Rattle.list_player.proofs.row.DotRow.put_open_span.Given as goal

-- the open columns so far are painted
abbrev pub invariant-loop-run : goal.invariant-loop-run
invariant-loop-run g l = record {
  painted : IsPainted (λ col. given_where (Some l.initial.ink)
      (is_in l.fn.first l.from col && is_open l.mask.regions l.row col)) l.initial.self l.self;
  order : l.fn.first ≤ l.from;
  within : l.from ≤ l.end;
  same : l.ink ≡ l.initial.ink;
}

-- the columns that are left
abbrev pub decreases-loop-run : goal.decreases-loop-run
decreases-loop-run g l = l.end - l.from
