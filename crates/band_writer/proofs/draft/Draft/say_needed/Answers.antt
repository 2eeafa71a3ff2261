use Rattle.std.proofs.Common.{refl, sym, ◌∙◌}
use Rattle.band_writer.proofs.Saying.{ink_stays, ink_changes}
use Rattle.band_writer.proofs.draft.Draft.say_needed.Goals as goal

pub returns-then-is_same_ink-clause-value : goal.returns-then-is_same_ink-clause-value
returns-then-is_same_ink-clause-value c =
    rw (sym c.self.view_is) (ink_stays _ c.args.ink (sym c.is_same_ink.ensures ∙ c.if-is_same_ink.true))

pub returns-clause-value : goal.returns-clause-value
returns-clause-value c = ink_changes c.args.self.now _ _ c.args.ink c.self.view_is
    (sym c.is_same_ink.ensures ∙ c.if-is_same_ink.false) c.in_ok-put_ink.ensures.ok refl refl
