use Rattle.std.proofs.Common.{◌≡◌, true, sym, subst, ap, ◌∙◌, map, is_some}
use Rattle.cache_core.specs.Steps.{is_legal}
use Rattle.cache_core.specs.declared.step.Step.TheVariants.{Hit}
use Rattle.link_cache.specs.CacheState.{CacheStateValue}
use Rattle.link_cache.specs.Kept.{mark_of}
use Rattle.link_cache.proofs.Closing.{hit_mark}
use Rattle.std.proofs.lemmas.Result.{IfOk-weaker}
use Rattle.std.specs.List.{slice_get}
use Rattle.link_cache.proofs.state.CacheState.value_of.Goals as goal

pub value_of-requires : goal.value_of-requires
value_of-requires g c =
    let s = c.self.inside in
    let legal : is_legal s.core (Hit c.args.seat c.args.place c.args.res) ≡ true =
    subst (λ (x : CacheStateValue). is_legal x.core (Hit c.args.seat c.args.place c.args.res) ≡ true)
    (sym c.self.view_is) c.requires in
    let m = hit_mark (map g.V.Made.mark s.named.items) s.slots.items s.opening s.core s.journal.items s.past c.args.seat
    c.args.place c.args.res c.self.invariant.1 legal in
    ap (λ ps. is_some (mark_of ps c.args.res)) c.deref.ensures.value ∙ (ap is_some m.0 ∙ m.1)

pub returns : goal.returns
returns g c =
    let s = c.self.inside in
    let legal : is_legal s.core (Hit c.args.seat c.args.place c.args.res) ≡ true =
    subst (λ (x : CacheStateValue). is_legal x.core (Hit c.args.seat c.args.place c.args.res) ≡ true)
    (sym c.self.view_is) c.requires in
    let m = hit_mark (map g.V.Made.mark s.named.items) s.slots.items s.opening s.core s.journal.items s.past c.args.seat
    c.args.place c.args.res c.self.invariant.1 legal in
    let same = ap (λ (x : CacheStateValue). slice_get x.named c.args.place) c.self.view_is in
    IfOk-weaker c.value_of.result _ _ (λ v h. sym same
    ∙ (sym m.0 ∙ (ap (λ ps. mark_of ps c.args.res) (sym c.deref.ensures.value) ∙ h))) c.value_of.ensures
