use Rattle.std.proofs.Common.{◌≡◌, ◌+◌, length, map, false}
use Rattle.std.specs.Arc.{arc_value}
use Rattle.list_player.specs.Painting.{IsBand}
use Rattle.list_player.specs.Playing.{tint_at}
use Rattle.list_player.specs.Code.Steps.{NeedsNow, IsUnderWay, awaited}
use Rattle.list_player.proofs.playing.Playing.play_list.Given as goal

-- the marks so far are drawn, and the needs so far were met
abbrev pub invariant-loop-self : goal.invariant-loop-self
invariant-loop-self g l = record {
  way : IsUnderWay g.T.Dot.dot g.T.Dot.depth
      (tint_at g.T.Dot.depth (g.C.Colours.colour l.initial.colours) (g.C.Colours.wide l.initial.colours))
      (map arc_value l.images) l.fn.bytes (g.C.Colours.lent l.initial.colours) (g.C.Colours.lent l.colours)
      (g.C.Colours.tries l.initial.colours) (g.C.Colours.tries l.colours)
      l.self.band.clip l.self.band.rows.items l.self.ink l.rest l.self.need;
  band : IsBand l.self.band.clip l.self.band.rows.items;
  clip : l.self.band.clip ≡ record l.fn.self.band.clip { regions = l.self.band.clip.regions };
  next : NeedsNow (map arc_value l.images) l.self.ink l.rest l.self.need;
  free : g.C.Colours.is_busy l.colours ≡ false;
  channels : g.C.Colours.channels l.colours ≡ g.C.Colours.channels l.initial.colours;
  colour : g.C.Colours.colour l.colours ≡ g.C.Colours.colour l.initial.colours;
  wide : g.C.Colours.wide l.colours ≡ g.C.Colours.wide l.initial.colours;
  sources : g.C.Colours.sources l.colours ≡ g.C.Colours.sources l.initial.colours;
}

-- the bytes that are left, and one more where a loan is waited for
abbrev pub decreases-loop-self : goal.decreases-loop-self
decreases-loop-self g l = length l.rest + awaited l.self.need
