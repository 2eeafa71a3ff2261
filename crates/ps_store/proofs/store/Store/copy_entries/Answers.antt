use Rattle.std.proofs.Common.{◌∙◌, ap, arith}
use Rattle.std.specs.Prelude.{slice_get}
use Rattle.std.specs.Option.{option_copied}
use Rattle.ps_store.proofs.Copies.{extended_back, numbered, refused_by, not_refused, put_back_more, put_back_same}
use Rattle.ps_store.proofs.store.Store.copy_entries.Goals as goal

pub returns-in-Ok-clause-ok : goal.returns-in-Ok-clause-ok
returns-in-Ok-clause-ok c =
    put_back_more _ c.self.inside.made.items c.self.inside.units c.args.to c.in-Ok.units c.replace-target.new.dest
    c.extend_from-answer.new.c _
    (extended_back _ c.self.inside.made.items c.self.inside.units c.args.to c.args.from c.index_mut.result.now
    c.replace-target.result c.replace-target.new.dest (option_copied c.composite_at-source.result)
    c.self.view_is (omega (arith, c.if-id-len.false, c.len.ensures)) c.if-from-to.false c.index_mut.ensures.value
    c.replace-target.ensures.value
    (c.composite_at-source.ensures ∙ ap (λ xs. slice_get xs c.args.from) c.deref.ensures.value))
    c.in-Ok.ensures.ok

pub returns-in-Ok-clause-limit : goal.returns-in-Ok-clause-limit
returns-in-Ok-clause-limit c =
    not_refused c.in-Ok.units _ _ c.args.to _
    (extended_back _ c.self.inside.made.items c.self.inside.units c.args.to c.args.from c.index_mut.result.now
    c.replace-target.result c.replace-target.new.dest (option_copied c.composite_at-source.result)
    c.self.view_is (omega (arith, c.if-id-len.false, c.len.ensures)) c.if-from-to.false c.index_mut.ensures.value
    c.replace-target.ensures.value
    (c.composite_at-source.ensures ∙ ap (λ xs. slice_get xs c.args.from) c.deref.ensures.value))
    c.in-Ok.ensures.limit

pub returns-in-Err-clause-limit : goal.returns-in-Err-clause-limit
returns-in-Err-clause-limit c =
    refused_by c.in-Err.refusal _ _ c.args.to _
    (extended_back _ c.self.inside.made.items c.self.inside.units c.args.to c.args.from c.index_mut.result.now
    c.replace-target.result c.replace-target.new.dest (option_copied c.composite_at-source.result)
    c.self.view_is (omega (arith, c.if-id-len.false, c.len.ensures)) c.if-from-to.false c.index_mut.ensures.value
    c.replace-target.ensures.value
    (c.composite_at-source.ensures ∙ ap (λ xs. slice_get xs c.args.from) c.deref.ensures.value))
    c.in-Err.ensures.limit

pub returns-in-Err-clause-err : goal.returns-in-Err-clause-err
returns-in-Err-clause-err c is =
    put_back_same c.self.inside.made.items c.self.inside.units c.args.to c.index_mut.result.now
    c.replace-target.new.dest c.extend_from-answer.new.c
    c.index_mut.ensures.value
    (c.in-Err.ensures.err (numbered c.in-Err.refusal is) ∙ c.replace-target.ensures.value)
    ∙ c.self.view_is
