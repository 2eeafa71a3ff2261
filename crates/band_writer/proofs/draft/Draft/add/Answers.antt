use Rattle.std.proofs.Common.{refl}
use Rattle.band_writer.proofs.Saying.{mark_added, changes_are}
use Rattle.band_writer.proofs.draft.Draft.add.Goals as goal

pub returns-clause-value : goal.returns-clause-value
returns-clause-value c = mark_added c.add.result c.args.self.now c.say_ink.new.self c.say_clip.new.self _ _
    c.args.mark.now c.args.painted.now c.ink_of.result c.source_of.result c.ink_of.ensures c.source_of.ensures
    c.in_ok-say_ink.ensures.value c.in_ok-say_clip.ensures.value c.self.view_is c.in_ok-put.ensures.ok c.add.ensures
    refl

pub returns-clause-commands : goal.returns-clause-commands
returns-clause-commands c = changes_are c.add.result c.args.self.now c.say_ink.new.self c.args.mark.now c.ink_of.result
    c.ink_of.ensures c.in_ok-say_ink.ensures.value c.in_ok-say_ink.ensures.commands
    c.in_ok-say_clip.ensures.commands
