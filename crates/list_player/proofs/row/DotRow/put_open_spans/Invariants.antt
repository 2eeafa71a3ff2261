use Rattle.std.proofs.Common.{◌≡◌, ◌&&◌, take, Some}
use Rattle.geo_fill.specs.Spans.{have_column}
use Rattle.geo_clip.specs.Mask.{is_open}
use Rattle.list_player.specs.Painting.{given_where, IsPainted}
use Rattle.list_player.proofs.row.DotRow.put_open_spans.Given as goal

-- the spans so far are painted where the mask is open
abbrev pub invariant-loop-span : goal.invariant-loop-span
invariant-loop-span g l = record {
  painted : IsPainted (λ col. given_where (Some l.initial.ink)
      (have_column (take l.span-index l.spans) col && is_open l.mask.regions l.row col)) l.initial.self l.self;
  same : l.ink ≡ l.initial.ink;
}
