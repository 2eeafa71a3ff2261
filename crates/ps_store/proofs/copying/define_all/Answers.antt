use Rattle.std.proofs.Common.{◌≡◌, ◌≤◌, ◌+◌, ◌∙◌, List, length, drop, Some, sym, ap, subst}
use Rattle.std.specs.Prelude.{count_by, slice_get}
use Rattle.indexmap.specs.IndexMap.{insert_all, insert_entry}
use Rattle.ps_store.specs.declared.key.Key.{Key}
use Rattle.ps_store.specs.declared.obj.Obj.{Obj}
use Rattle.ps_store.specs.Keys.{same_key}
use Rattle.ps_store.specs.Copying.{lacks}
use Rattle.ps_store.proofs.Entered.{entered_more, room_left, room_for}
use Rattle.ps_store.proofs.copying.define_all.Goals as goal

pub define-requires : goal.define-requires
define-requires c = rw c.again.ensures (room_for c.loop-at.target c.args.source.now c.loop-at.at
    (c.in-Some.key.now, c.in-Some.value.now) (sym c.in-Some.ensures) c.loop-at.invariant.1)

pub loop-at-preserved : goal.loop-at-preserved
loop-at-preserved c =
    let is = c.in_ok-define.ensures.ok
    ∙ (ap (λ k. insert_entry same_key c.loop-at.target k c.again-in-loop-at.result) c.again.ensures
    ∙ ap (λ v. insert_entry same_key c.loop-at.target c.in-Some.key.now v) c.again-in-loop-at.ensures) in
    let rest = drop (c.loop-at.at + 1) c.args.source.now in
    let here : slice_get c.args.source.now c.loop-at.at ≡ Some (c.in-Some.key.now, c.in-Some.value.now) =
    sym c.in-Some.ensures in
    let HasRoom : List (Key × Obj) → Type 0 = λ es. length es + count_by (lacks es) rest ≤ 65535 in (
      ap (λ es. insert_all same_key es rest) is
          ∙ entered_more c.loop-at.target c.args.source.now c.loop-at.at
          (c.in-Some.key.now, c.in-Some.value.now) _ here c.loop-at.invariant.0,
      subst HasRoom (sym is) (room_left c.loop-at.target c.args.source.now c.loop-at.at
          (c.in-Some.key.now, c.in-Some.value.now) here c.loop-at.invariant.1),
    )
