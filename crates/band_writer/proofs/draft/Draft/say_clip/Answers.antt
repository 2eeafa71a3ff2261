use Rattle.std.proofs.Common.{refl, sym, ◌∙◌, rules}
use Rattle.band_writer.proofs.Saying.{clip_stays, clip_changes}
use Rattle.band_writer.proofs.draft.Draft.say_clip.Goals as goal

pub returns-then-is_clip_said-clause-value : goal.returns-then-is_clip_said-clause-value
returns-then-is_clip_said-clause-value c =
    clip_stays c.args.self.now c.args.mark.now (sym c.is_clip_said.ensures ∙ c.if-is_clip_said.true)

pub returns-clause-value : goal.returns-clause-value
returns-clause-value c = clip_changes c.args.self.now _ _ c.args.mark.now c.self.view_is
    (sym c.is_clip_said.ensures ∙ c.if-is_clip_said.false) (search rules) refl refl (search rules) (search rules)
