use Rattle.std.proofs.Common.{◌≡◌, ◌∙◌, ap, sym, subst, map, ℕ, rules}
use Rattle.std.specs.Arc.{arc_value}
use Rattle.band_writer.specs.Parts.{AreSpellings}
use Rattle.list_player.specs.Playing.{tint_at, dots_of}
use Rattle.list_player.proofs.Lists.{white_band, band_done, says_of}
use Rattle.list_player.proofs.playing.plain_at.Goals as goal

pub play_unlinked-requires-clause-white : goal.play_unlinked-requires-clause-white
play_unlinked-requires-clause-white g c = white_band g.T.Dot.dot g.T.Dot.depth _ _ _ _ _ c.in_ok-playing.ensures.clip
    c.in_ok-playing.ensures.rows

pub play_unlinked-requires-clause-spellings : goal.play_unlinked-requires-clause-spellings
play_unlinked-requires-clause-spellings g c =
    subst AreSpellings (sym c.bytes.ensures.value) c.bytes.ensures.spellings

pub play_unlinked-requires-clause-plain : goal.play_unlinked-requires-clause-plain
play_unlinked-requires-clause-plain g c =
    let same : map arc_value c.items.result.now ≡ c.args.parts.now.images = search rules in
    λ marks says. c.requires.plain marks (says_of c.args.parts.now.images (map arc_value c.items.result.now)
    c.args.list.now.bytes c.bytes.result.now marks same c.bytes.ensures.value says)

pub returns : goal.returns
returns g c =
    let same : c.args.parts.now.images ≡ map arc_value c.items.result.now = search rules in
    λ colour wide marks says. band_done g.T.Dot.dot g.T.Dot.bytes g.T.Dot.depth colour wide c.args.parts.now
    c.band-band.result c.in_ok-playing.playing.band.clip
    c.play_unlinked.new.self.band.clip marks c.play_unlinked.new.self.band.rows.items c.in_ok-dots.dots
    g.T.Dot.bytes_of_dot
    c.requires.depth c.in_ok-playing.ensures.clip c.in_ok-play_unlinked.ensures.clip
    (c.in_ok-play_unlinked.ensures.shown (tint_at g.T.Dot.depth colour wide) marks
    (says_of (map arc_value c.items.result.now)
    c.args.parts.now.images c.bytes.result.now c.args.list.now.bytes marks same (sym c.bytes.ensures.value) says))
    c.in_ok-dots.ensures
    ∙ ap (λ n. dots_of (tint_at c.args.parts.now.depth colour wide) c.args.parts.now n marks) c.band-band.ensures
