use Rattle.std.proofs.Common.{◌≡◌, ◌⊎◌, ◌<◌, ℕ, List, length, map, Option, None}
use Rattle.std.specs.Arc.{arc_value}
use Rattle.press_fault.specs.Plane.{CodeValue}
use Rattle.page_model.specs.Marking.{MarkValue}
use Rattle.list_player.specs.Painting.{IsBand}
use Rattle.list_player.specs.Memo.{Remembers}
use Rattle.list_player.specs.Code.Steps.{lent_at, lent_dot, AreServable, GoesBy, IsPlayed}
use Rattle.list_player.proofs.playing.Playing.run_on.Given as goal

-- what the commands so far say is drawn
abbrev pub invariant-loop-brief : goal.invariant-loop-brief
invariant-loop-brief g l = record {
  free : l.self.need ≡ None;
  band : IsBand l.self.band.clip l.self.band.rows.items;
  memo : Remembers (lent_dot g.T.Dot.dot g.T.Dot.depth (g.L.Lent.colour l.loan) (g.L.Lent.wide l.loan))
      l.self.memo.told.items;
  clip : l.self.band.clip ≡ record l.initial.self.band.clip { regions = l.self.band.clip.regions };
  servable : AreServable l.source (g.L.Lent.channels l.loan) (map arc_value l.images) l.self.ink l.rest;
  moved : ((l.rest ≡ l.fn.bytes) × (l.self.ink ≡ l.initial.self.ink)) ⊎ (length l.rest < length l.fn.bytes);
  played : (tint : ℕ → CodeValue → List ℕ) (whole : List MarkValue) (met : List ℕ) →
      GoesBy l.source tint (lent_at g.T.Dot.depth (g.L.Lent.colour l.loan) (g.L.Lent.wide l.loan)) →
      IsPlayed g.T.Dot.dot g.T.Dot.depth tint (map arc_value l.images) whole met l.source
      l.initial.self.band.clip l.initial.self.band.rows.items l.initial.self.ink l.fn.bytes →
      IsPlayed g.T.Dot.dot g.T.Dot.depth tint (map arc_value l.images) whole met l.source
      l.self.band.clip l.self.band.rows.items l.self.ink l.rest;
}

-- the bytes that are left
abbrev pub decreases-loop-brief : goal.decreases-loop-brief
decreases-loop-brief g l = length l.rest
