use Rattle.std.proofs.Common.{◌≡◌, ◌∙◌, ap, sym, subst, map, ℕ, rules}
use Rattle.std.specs.Arc.{arc_value}
use Rattle.band_writer.specs.Parts.{AreSpellings}
use Rattle.list_player.specs.Playing.{tint_at, dots_of}
use Rattle.list_player.proofs.Lists.{white_band, band_done, says_of, on_err, asked_all}
use Rattle.list_player.proofs.playing.play_at.Goals as goal

pub play_list-requires-clause-white : goal.play_list-requires-clause-white
play_list-requires-clause-white g c = white_band g.T.Dot.dot g.T.Dot.depth _ _ _ _ _ c.in_ok-playing.ensures.clip
    c.in_ok-playing.ensures.rows

pub play_list-requires-clause-spellings : goal.play_list-requires-clause-spellings
play_list-requires-clause-spellings g c = subst AreSpellings (sym c.bytes.ensures.value) c.bytes.ensures.spellings

pub play_list-requires-clause-known : goal.play_list-requires-clause-known
play_list-requires-clause-known g c =
    let same : map arc_value c.items.result.now ≡ c.args.parts.now.images = search rules in
    λ marks says. c.requires.known marks (says_of c.args.parts.now.images (map arc_value c.items.result.now)
    c.args.list.now.bytes c.bytes.result.now marks same c.bytes.ensures.value says)

pub play_list-requires-clause-channels : goal.play_list-requires-clause-channels
play_list-requires-clause-channels g c =
    let same : map arc_value c.items.result.now ≡ c.args.parts.now.images = search rules in
    λ marks says. c.requires.channels marks (says_of c.args.parts.now.images (map arc_value c.items.result.now)
    c.args.list.now.bytes c.bytes.result.now marks same c.bytes.ensures.value says)

pub returns-in_err-play_list-clause-few : goal.returns-in_err-play_list-clause-few
returns-in_err-play_list-clause-few g c =
    let same : c.args.parts.now.images ≡ map arc_value c.items.result.now = search rules in
    λ marks says. on_err _ _ (c.in_err-play_list.ensures.few marks (says_of (map arc_value c.items.result.now)
    c.args.parts.now.images c.bytes.result.now c.args.list.now.bytes marks same (sym c.bytes.ensures.value) says))

pub returns-in_err-dots-clause-few : goal.returns-in_err-dots-clause-few
returns-in_err-dots-clause-few g c =
    let same : c.args.parts.now.images ≡ map arc_value c.items.result.now = search rules in
    λ marks says. on_err _ _ (asked_all _ _ _ (c.in_ok-play_list.ensures.tries marks
    (says_of (map arc_value c.items.result.now)
    c.args.parts.now.images c.bytes.result.now c.args.list.now.bytes marks same (sym c.bytes.ensures.value) says)))

pub returns-clause-dots : goal.returns-clause-dots
returns-clause-dots g c =
    let same : c.args.parts.now.images ≡ map arc_value c.items.result.now = search rules in
    λ marks says. band_done g.T.Dot.dot g.T.Dot.bytes g.T.Dot.depth (g.C.Colours.colour c.args.colours.now)
    (g.C.Colours.wide c.args.colours.now) c.args.parts.now c.band-band.result c.in_ok-playing.playing.band.clip
    c.play_list.new.self.band.clip marks c.play_list.new.self.band.rows.items c.in_ok-dots.dots g.T.Dot.bytes_of_dot
    c.requires.depth c.in_ok-playing.ensures.clip c.in_ok-play_list.ensures.clip
    (c.in_ok-play_list.ensures.shown marks (says_of (map arc_value c.items.result.now)
    c.args.parts.now.images c.bytes.result.now c.args.list.now.bytes marks same (sym c.bytes.ensures.value) says))
    c.in_ok-dots.ensures
    ∙ ap (λ n. dots_of (tint_at c.args.parts.now.depth (g.C.Colours.colour c.args.colours.now)
    (g.C.Colours.wide c.args.colours.now)) c.args.parts.now n marks) c.band-band.ensures

pub returns-clause-lent : goal.returns-clause-lent
returns-clause-lent g c =
    let same : c.args.parts.now.images ≡ map arc_value c.items.result.now = search rules in
    λ marks says. c.in_ok-play_list.ensures.lent marks (says_of (map arc_value c.items.result.now)
    c.args.parts.now.images c.bytes.result.now c.args.list.now.bytes marks same (sym c.bytes.ensures.value) says)

pub returns-clause-tries : goal.returns-clause-tries
returns-clause-tries g c =
    let same : c.args.parts.now.images ≡ map arc_value c.items.result.now = search rules in
    λ marks says. c.in_ok-play_list.ensures.tries marks (says_of (map arc_value c.items.result.now)
    c.args.parts.now.images c.bytes.result.now c.args.list.now.bytes marks same (sym c.bytes.ensures.value) says)
