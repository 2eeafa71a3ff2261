use Rattle.std.proofs.Common.{◌≡◌, List, ℕ, Option, None, map, []}
use Rattle.std.specs.Arc.{arc_value}
use Rattle.band_writer.specs.Said.{list_marks}
use Rattle.list_player.proofs.Lists.{opened, said_of, under_way, goes_none, servable_unlinked, none_waits, ended_shown}
use Rattle.list_player.proofs.Lists.{waits_none}
use Rattle.list_player.proofs.playing.Playing.play_unlinked.Goals as goal

pub run-requires-clause-servable : goal.run-requires-clause-servable
run-requires-clause-servable g c = servable_unlinked c.args.self.now.need _ (map arc_value c.args.images.now)
    c.args.self.now.ink c.args.bytes.now c.requires.need c.requires.spellings

pub run-requires-clause-next : goal.run-requires-clause-next
run-requires-clause-next g c = none_waits c.args.self.now.need (map arc_value c.args.images.now)
    c.args.self.now.ink c.args.bytes.now c.requires.need

pub returns-clause-shown : goal.returns-clause-shown
returns-clause-shown g c =
    let images = map arc_value c.args.images.now in
    let whole = list_marks images c.requires.spellings.cmds in
    let said = said_of images c.args.bytes.now c.requires.spellings in
    λ tint marks says.
    let played = c.in_ok-run.ensures.played tint whole [] (goes_none c.args.self.now.need tint _ c.requires.need)
    (opened g.T.Dot.dot g.T.Dot.depth tint images c.args.bytes.now c.requires.spellings c.args.self.now.need _ _ _
    c.requires.need c.requires.clip c.requires.ink (c.requires.white tint)) in
    let way = under_way g.T.Dot.dot g.T.Dot.depth tint images c.args.bytes.now None 0 _ _ _ _ c.args.self.now.need _
    whole c.requires.need said played in
    ended_shown g.T.Dot.dot g.T.Dot.depth tint images c.args.bytes.now None None 0 0 c.args.self.now.band.clip
    c.run.new.self.band.clip c.run.new.self.band.rows.items c.run.new.self.ink _ c.run.new.self.need marks
    (waits_none way.met c.run.new.self.need way.whole way.played.played.left (c.requires.plain way.whole way.says)
    way.played.played.needs) c.in_ok-run.ensures.clip says way
