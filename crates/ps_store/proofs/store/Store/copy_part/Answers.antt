use Rattle.std.proofs.Common.{◌∙◌, ap, arith}
use Rattle.std.specs.Prelude.{slice_get}
use Rattle.std.specs.Option.{option_copied}
use Rattle.ps_store.specs.Copying.{copied_part, pasted}
use Rattle.ps_store.proofs.Copies.{put_back}
use Rattle.ps_store.proofs.store.Store.copy_part.Goals as goal

pub returns : goal.returns
returns c =
    put_back c.self.inside.made.items c.self.inside.units c.to.inside.id c.from.inside.id c.from.inside.start
    c.from.inside.len c.to.inside.start
    c.index_mut-2.result.now c.replace-target.new.dest c.paste_from.new.c (option_copied c.composite_at-source.result)
    (omega (arith, c.if-id-len.false, c.len.ensures))
    c.if-from-to.false
    c.index_mut-2.ensures.value
    (c.composite_at-source.ensures ∙ ap (λ xs. slice_get xs c.from.inside.id) c.deref.ensures.value)
    (c.paste_from.ensures ∙ ap (pasted (option_copied c.composite_at-source.result) c.from.inside.start
    c.from.inside.len c.to.inside.start) c.replace-target.ensures.value)
    ∙ (ap (λ s. copied_part s (record { id = c.from.inside.id; start = c.from.inside.start; len = c.from.inside.len })
    (record { id = c.to.inside.id; start = c.to.inside.start; len = c.to.inside.len })) c.self.view_is
    ∙ (ap (λ p. copied_part c.args.self.now p
    (record { id = c.to.inside.id; start = c.to.inside.start; len = c.to.inside.len })) c.from.view_is
    ∙ ap (λ p. copied_part c.args.self.now c.args.from p) c.to.view_is))
