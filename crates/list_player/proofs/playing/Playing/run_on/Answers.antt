use Rattle.std.proofs.Common.{◌≡◌, ◌∙◌, ap, sym, subst, map, length, inr, ◌<◌, ℕ, List, Option, true}
use Rattle.std.specs.Arc.{arc_value}
use Rattle.list_codec.specs.Command.{brief_value}
use Rattle.list_player.specs.Code.Steps.{is_served, cmd_source}
use Rattle.list_player.proofs.Plays.{front_shorter, plays_more, plays_stop, plays_ended, servable_more, suits_cmd}
use Rattle.list_player.proofs.Plays.{next_need}
use Rattle.list_player.proofs.Plays.{less_stop, less_end, moved_on, clip_more, band_more}
use Rattle.list_player.proofs.playing.Playing.run_on.Goals as goal

pub returns-then-not-is_served-clause-next : goal.returns-then-not-is_served-clause-next
returns-then-not-is_served-clause-next g c =
    let found = rw c.in-Some.is at c.in_ok-brief.ensures.found in
    next_need (map arc_value c.args.images.now) c.loop-brief.self.ink _ c.source_of-need.result
    (brief_value c.in-Some.brief c.read.new.self) c.in-Some.count (c.source_of-need.ensures c.read.new.self) found

pub returns-then-not-is_served-clause-played : goal.returns-then-not-is_served-clause-played
returns-then-not-is_served-clause-played g c =
    let found = rw c.in-Some.is at c.in_ok-brief.ensures.found in
    λ tint whole met goes before. plays_stop g.T.Dot.dot g.T.Dot.depth tint (map arc_value c.args.images.now) whole met
    c.args.source c.source_of-need.result c.loop-brief.self.band.clip _ c.loop-brief.self.ink _
    (brief_value c.in-Some.brief c.read.new.self) c.in-Some.count (c.source_of-need.ensures c.read.new.self)
    (sym c.is_served.ensures ∙ c.if-not-is_served.true) found (c.loop-brief.invariant.played tint whole met goes before)

pub returns-then-not-is_served-clause-less : goal.returns-then-not-is_served-clause-less
returns-then-not-is_served-clause-less g c =
    let found = rw c.in-Some.is at c.in_ok-brief.ensures.found in
    less_stop c.args.source c.source_of-need.result c.args.bytes.now _ c.args.self.now.ink c.loop-brief.self.ink
    (map arc_value c.args.images.now) (brief_value c.in-Some.brief c.read.new.self) c.in-Some.count
    c.loop-brief.invariant.moved c.requires.next (c.source_of-need.ensures c.read.new.self)
    (sym c.is_served.ensures ∙ c.if-not-is_served.true) found

pub obey-requires-clause-channels : goal.obey-requires-clause-channels
obey-requires-clause-channels g c =
    let found = rw c.in-Some.is at c.in_ok-brief.ensures.found in
    suits_cmd c.args.source (g.L.Lent.channels c.args.loan.now) (map arc_value c.args.images.now) c.loop-brief.self.ink
    _
    (brief_value c.in-Some.brief c.read.new.self) c.in-Some.count c.loop-brief.invariant.servable found
    (ap (λ (o : Option ℕ). is_served c.args.source o) (sym (c.source_of-need.ensures c.read.new.self))
    ∙ (sym c.is_served.ensures ∙ c.if-not-is_served.false))

pub loop-brief-smaller : goal.loop-brief-smaller
loop-brief-smaller g c =
    let found = rw c.in-Some.is at c.in_ok-brief.ensures.found in
    subst (λ (b : List ℕ). length b < length c.loop-brief.rest.now) (sym c.split_at.ensures.back)
    (front_shorter c.loop-brief.rest.now (brief_value c.in-Some.brief c.read.new.self) c.in-Some.count found)

pub loop-brief-preserved : goal.loop-brief-preserved
loop-brief-preserved g c =
    let found = rw c.in-Some.is at c.in_ok-brief.ensures.found in
    let images = map arc_value c.args.images.now in
    let cmd = brief_value c.in-Some.brief c.read.new.self in
    let served : is_served c.args.source (cmd_source images c.loop-brief.self.ink cmd) ≡ true =
    ap (λ (o : Option ℕ). is_served c.args.source o) (sym (c.source_of-need.ensures c.read.new.self))
    ∙ (sym c.is_served.ensures ∙ c.if-not-is_served.false) in
    record {
      free = c.in_ok-obey.ensures.need ∙ c.loop-brief.invariant.free;
      band = band_more c.loop-brief.self.band.clip c.obey.new.self.band.clip cmd _ _ _ c.loop-brief.self.band.rows.items
          c.obey.new.self.band.rows.items c.in_ok-obey.ensures.clip c.loop-brief.invariant.band
          c.in_ok-obey.ensures.painted;
      memo = c.in_ok-obey.ensures.memo;
      clip = clip_more c.args.self.now.band.clip c.loop-brief.self.band.clip c.obey.new.self.band.clip cmd
          c.in_ok-obey.ensures.clip c.loop-brief.invariant.clip;
      servable = servable_more c.args.source _ images c.loop-brief.self.ink c.obey.new.self.ink c.loop-brief.rest.now
          c.split_at.result.1.now cmd c.in-Some.count c.in_ok-obey.ensures.ink c.split_at.ensures.back
          c.loop-brief.invariant.servable found;
      moved = inr (subst (λ (b : List ℕ). length b < length c.args.bytes.now) (sym c.split_at.ensures.back)
          (moved_on c.args.bytes.now c.loop-brief.rest.now c.args.self.now.ink c.loop-brief.self.ink
          c.loop-brief.self.ink
          cmd c.in-Some.count c.loop-brief.invariant.moved found));
      played = λ tint whole met goes before. plays_more g.T.Dot.dot g.T.Dot.depth tint
          (g.L.Lent.colour c.args.loan.now) (g.L.Lent.wide c.args.loan.now) images whole met c.args.source
          c.loop-brief.self.band.clip c.obey.new.self.band.clip c.loop-brief.self.band.rows.items
          c.obey.new.self.band.rows.items c.loop-brief.self.ink c.obey.new.self.ink c.loop-brief.rest.now
          c.split_at.result.1.now cmd c.in-Some.count c.in_ok-obey.ensures.clip c.in_ok-obey.ensures.ink
          c.split_at.ensures.back served goes found c.in_ok-obey.ensures.painted
          (c.loop-brief.invariant.played tint whole met goes before);
    }

pub returns-clause-played : goal.returns-clause-played
returns-clause-played g c =
    let none = rw c.in_default.is at c.in_ok-brief.ensures.none in
    λ tint whole met goes before. plays_ended g.T.Dot.dot g.T.Dot.depth tint (map arc_value c.args.images.now) whole met
    c.args.source c.loop-brief.self.need c.loop-brief.self.band.clip c.loop-brief.self.band.rows.items
    c.loop-brief.self.ink
    c.loop-brief.rest.now c.loop-brief.invariant.free none (c.loop-brief.invariant.played tint whole met goes before)
