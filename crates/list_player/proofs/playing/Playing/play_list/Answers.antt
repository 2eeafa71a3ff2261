use Rattle.std.proofs.Common.{◌≡◌, ◌∙◌, ap, sym, subst, refl, map, [], ◌+◌, ◌++◌, length, ℕ, List}
use Rattle.std.specs.Prelude.{Contains, option_map}
use Rattle.press_fault.specs.Plane.{CodeValue}
use Rattle.std.specs.Arc.{arc_value}
use Rattle.band_writer.specs.Said.{list_marks}
use Rattle.list_player.specs.Playing.{tint_at}
use Rattle.list_player.proofs.Lists.{opened, said_of, under_way, goes_none, goes_some, servable_unlinked, none_waits}
use Rattle.list_player.proofs.Lists.{servable_of, known_next, one_more, further, ended_shown, ended_met, goes_by}
use Rattle.list_player.proofs.Lists.{said_once}
use Rattle.list_player.proofs.Lists.{clip_twice, on_err, few_more}
use Rattle.list_player.proofs.playing.Playing.play_list.Goals as goal

pub run-requires-clause-servable : goal.run-requires-clause-servable
run-requires-clause-servable g c = servable_unlinked c.args.self.now.need _ (map arc_value c.args.images.now)
    c.args.self.now.ink c.args.bytes.now c.requires.need c.requires.spellings

pub run-requires-clause-next : goal.run-requires-clause-next
run-requires-clause-next g c = none_waits c.args.self.now.need (map arc_value c.args.images.now)
    c.args.self.now.ink c.args.bytes.now c.requires.need

pub loop-self-init : goal.loop-self-init
loop-self-init g c =
    let images = map arc_value c.args.images.now in
    let tint = tint_at g.T.Dot.depth (g.C.Colours.colour c.args.colours.now) (g.C.Colours.wide c.args.colours.now) in
    let whole = list_marks images c.requires.spellings.cmds in
    record {
      way = under_way g.T.Dot.dot g.T.Dot.depth tint images c.args.bytes.now _ _ _ _ _ _ c.args.self.now.need _ whole
          c.requires.need (said_of images c.args.bytes.now c.requires.spellings)
          (c.in_ok-rest.ensures.played tint whole []
          (goes_none c.args.self.now.need tint _ c.requires.need)
          (opened g.T.Dot.dot g.T.Dot.depth tint images c.args.bytes.now c.requires.spellings c.args.self.now.need _ _ _
          c.requires.need c.requires.clip c.requires.ink (c.requires.white tint)));
      band = c.in_ok-rest.ensures.band;
      clip = c.in_ok-rest.ensures.clip;
      next = c.in_ok-rest.ensures.next;
      free = c.requires.free;
      channels = refl;
      colour = refl;
      wide = refl;
      sources = refl;
    }

pub loop-self-preserved : goal.loop-self-preserved
loop-self-preserved g c =
    let images = map arc_value c.args.images.now in
    let colour = g.C.Colours.colour c.args.colours.now in
    let wide = g.C.Colours.wide c.args.colours.now in
    let tint = tint_at g.T.Dot.depth colour wide in
    let way = c.loop-self.invariant.way in
    let goes = goes_some c.loop-self.self.need c.in-Some.source tint _ c.in-Some.is
    (goes_by g.T.Dot.depth colour wide c.in-Some.source _ _
    (c.in_ok-loan.ensures.colour ∙ ap (λ (f : ℕ → CodeValue → List ℕ). f c.in-Some.source) c.loop-self.invariant.colour)
    (c.in_ok-loan.ensures.wide ∙ ap (λ (f : ℕ → CodeValue → List ℕ). f c.in-Some.source) c.loop-self.invariant.wide)) in
    record {
      way = further g.T.Dot.dot g.T.Dot.depth tint images c.args.bytes.now _ _ _ _ _ _ _ _ _ _ _ _ _ _ c.in-Some.source
          c.loop-self.self.need c.run-ran.new.self.need c.in-Some.is way
          (c.give_back.ensures.lent ∙ c.in_ok-loan.ensures.lent) (c.give_back.ensures.tries ∙
          c.in_ok-loan.ensures.tries)
          (c.in_ok-rest-2.ensures.played tint way.whole way.met goes way.played.played);
      band = c.in_ok-rest-2.ensures.band;
      clip = clip_twice c.args.self.now.band.clip c.loop-self.self.band.clip c.run-ran.new.self.band.clip
          c.in_ok-rest-2.ensures.clip c.loop-self.invariant.clip;
      next = c.in_ok-rest-2.ensures.next;
      free = c.give_back.ensures.free;
      channels = c.give_back.ensures.channels ∙ (c.in_ok-loan.ensures.channels_stay ∙ c.loop-self.invariant.channels);
      colour = c.give_back.ensures.colour ∙ (c.in_ok-loan.ensures.colour_stays ∙ c.loop-self.invariant.colour);
      wide = c.give_back.ensures.wide ∙ (c.in_ok-loan.ensures.wide_stays ∙ c.loop-self.invariant.wide);
      sources = c.give_back.ensures.sources ∙ (c.in_ok-loan.ensures.sources_stay ∙ c.loop-self.invariant.sources);
    }

pub lend-requires-clause-known : goal.lend-requires-clause-known
lend-requires-clause-known g c = let way = c.loop-self.invariant.way in
    subst (λ (ss : List ℕ). Contains ss c.in-Some.source) (sym c.loop-self.invariant.sources)
    (known_next (g.C.Colours.sources c.args.colours.now) way.met way.whole way.played.played.left c.in-Some.source
    c.loop-self.self.need c.in-Some.is (c.requires.known way.whole way.says) way.played.played.needs)

pub run-ran-requires-clause-servable : goal.run-ran-requires-clause-servable
run-ran-requires-clause-servable g c = let way = c.loop-self.invariant.way in
    servable_of g.T.Dot.dot g.T.Dot.depth
    (tint_at g.T.Dot.depth (g.C.Colours.colour c.args.colours.now) (g.C.Colours.wide c.args.colours.now))
    (map arc_value c.args.images.now) way.whole way.met c.in-Some.source c.loop-self.self.need
    c.loop-self.self.band.clip
    c.loop-self.self.band.rows.items c.loop-self.self.ink c.loop-self.rest.now (g.C.Colours.channels
    c.args.colours.now) _
    c.in-Some.is
    (c.in_ok-loan.ensures.channels ∙ ap (λ (f : ℕ → ℕ). f c.in-Some.source) c.loop-self.invariant.channels)
    (c.requires.channels way.whole way.says) way.played.played

pub returns-in_err-loan-clause-few : goal.returns-in_err-loan-clause-few
returns-in_err-loan-clause-few g c = let way = c.loop-self.invariant.way in
    λ marks says. on_err _ _ (few_more (g.C.Colours.tries c.args.colours.now) (g.C.Colours.tries c.loop-self.colours)
    (g.C.Colours.tries c.lend.new.self) way.met way.whole marks way.played.played.left c.in-Some.source
    c.loop-self.self.need
    c.in-Some.is c.lend.ensures.tries way.tries way.played.played.needs
    (said_once (map arc_value c.args.images.now) c.args.bytes.now way.whole marks way.says says))

pub returns-in_err-rest-2-clause-few : goal.returns-in_err-rest-2-clause-few
returns-in_err-rest-2-clause-few g c = let way = c.loop-self.invariant.way in
    λ marks says. on_err _ _ (few_more (g.C.Colours.tries c.args.colours.now) (g.C.Colours.tries c.loop-self.colours)
    (g.C.Colours.tries c.give_back.new.self) way.met way.whole marks way.played.played.left c.in-Some.source
    c.loop-self.self.need c.in-Some.is (c.give_back.ensures.tries ∙ c.lend.ensures.tries) way.tries
    way.played.played.needs
    (said_once (map arc_value c.args.images.now) c.args.bytes.now way.whole marks way.says says))

pub returns-clause-shown : goal.returns-clause-shown
returns-clause-shown g c = λ marks says. ended_shown g.T.Dot.dot g.T.Dot.depth
    (tint_at g.T.Dot.depth (g.C.Colours.colour c.args.colours.now) (g.C.Colours.wide c.args.colours.now))
    (map arc_value c.args.images.now) c.args.bytes.now _ _ _ _ c.args.self.now.band.clip c.loop-self.self.band.clip
    c.loop-self.self.band.rows.items c.loop-self.self.ink c.loop-self.rest.now c.loop-self.self.need marks
    c.in_default.is
    c.loop-self.invariant.clip says c.loop-self.invariant.way

pub returns-clause-lent : goal.returns-clause-lent
returns-clause-lent g c = let way = c.loop-self.invariant.way in
    λ marks says. way.lent ∙ ap (λ (ns : List ℕ). option_map (λ (ss : List ℕ). ss ++ ns) (g.C.Colours.lent
    c.args.colours.now))
    (ended_met g.T.Dot.dot g.T.Dot.depth
    (tint_at g.T.Dot.depth (g.C.Colours.colour c.args.colours.now) (g.C.Colours.wide c.args.colours.now))
    (map arc_value c.args.images.now) c.args.bytes.now _ _ _ _ c.loop-self.self.band.clip
    c.loop-self.self.band.rows.items c.loop-self.self.ink c.loop-self.rest.now c.loop-self.self.need marks
    c.in_default.is
    says way)

pub returns-clause-tries : goal.returns-clause-tries
returns-clause-tries g c = let way = c.loop-self.invariant.way in
    λ marks says. way.tries ∙ ap (λ (ns : List ℕ). g.C.Colours.tries c.args.colours.now + length ns)
    (ended_met g.T.Dot.dot g.T.Dot.depth
    (tint_at g.T.Dot.depth (g.C.Colours.colour c.args.colours.now) (g.C.Colours.wide c.args.colours.now))
    (map arc_value c.args.images.now) c.args.bytes.now _ _ _ _ c.loop-self.self.band.clip
    c.loop-self.self.band.rows.items c.loop-self.self.ink c.loop-self.rest.now c.loop-self.self.need marks
    c.in_default.is
    says way)
