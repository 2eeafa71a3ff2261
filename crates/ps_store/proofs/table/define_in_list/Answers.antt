use Rattle.std.proofs.Common.{◌≡◌, ◌∙◌, sym, ap, length, length-set, get_or, drop}
use Rattle.std.proofs.lemmas.List.{take_at}
use Rattle.ps_store.specs.declared.key.Key.{Key}
use Rattle.ps_store.specs.declared.obj.Obj.{Obj}
use Rattle.ps_store.proofs.Listed.{entered_at, entered_last, found_first}
use Rattle.ps_store.proofs.table.define_in_list.Goals as goal

pub returns-in-Some-clause-ok : goal.returns-in-Some-clause-ok
returns-in-Some-clause-ok c =
    let es = c.args.list.now.items in
    let d : Key × Obj = (c.args.key, c.args.value) in
    let first = rw c.deref.ensures.value at c.in-Some.ensures in
    let now = c.replace_value.ensures d in
    let is = rw c.deref_mut.ensures.value at now in
    let place = c.in-Some.at in
    let long = ap length is ∙ length-set es place ((get_or es place d).0, c.args.value) in
    let items = ap length c.deref_mut.ensures.value in
    take_at c.replace_value.new.list (drop (length c.replace_value.new.list) es) c.args.list.now.len
    (long ∙ (sym items ∙ c.deref_mut.ensures.len))
    ∙ (is ∙ sym (entered_at es c.args.key c.args.value c.in-Some.at d first))

pub returns-in-Some-clause-is_new : goal.returns-in-Some-clause-is_new
returns-in-Some-clause-is_new c =
    let first = rw c.deref.ensures.value at c.in-Some.ensures in
    found_first c.args.list.now.items c.args.key c.in-Some.at first

pub returns-in_ok-add_entry-in-None-clause-ok : goal.returns-in_ok-add_entry-in-None-clause-ok
returns-in_ok-add_entry-in-None-clause-ok c =
    let none = rw c.deref.ensures.value at c.in-None.ensures in
    c.in_ok-add_entry-in-None.ensures.ok ∙ sym (entered_last c.args.list.now.items c.args.key c.args.value none)
