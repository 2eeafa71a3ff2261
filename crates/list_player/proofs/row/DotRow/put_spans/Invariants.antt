use Rattle.std.proofs.Common.{◌≡◌, take, Some}
use Rattle.geo_fill.specs.Spans.{have_column}
use Rattle.list_player.specs.Painting.{given_where, IsPainted}
use Rattle.list_player.proofs.row.DotRow.put_spans.Given as goal

-- the spans so far are painted
abbrev pub invariant-loop-span : goal.invariant-loop-span
invariant-loop-span g l = record {
  painted : IsPainted (λ col. given_where (Some l.initial.ink) (have_column (take l.span-index l.spans) col))
      l.initial.self
      l.self;
  same : l.ink ≡ l.initial.ink;
}
