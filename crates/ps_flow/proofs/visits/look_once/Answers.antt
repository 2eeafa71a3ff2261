use Rattle.std.proofs.Common.{◌≡◌, ◌+◌, ◌-◌, ◌∙◌, true, Some, ap, subst, sym}
use Rattle.std.specs.Map.{lookup}
use Rattle.ps_store.specs.Parts.{PartValue}
use Rattle.ps_flow.specs.Binding.{procedure_at, same_part}
use Rattle.ps_flow.specs.Code.Places.{AreAdded, AreSeen, is_seen, place_of}
use Rattle.ps_flow.specs.Code.Visits.{with_found}
use Rattle.ps_flow.proofs.PlaceLemmas.{added_found, added_none, marked_old, passed_old, seen_further, seen_new}
use Rattle.ps_flow.proofs.visits.look_once.Goals as goal

pub returns-in_ok-pass-in-Some-clause-seen : goal.returns-in_ok-pass-in-Some-clause-seen
returns-in_ok-pass-in-Some-clause-seen c =
    let s = c.args.store.now in
    let p = c.args.p in
    let visits = c.args.visits.now in
    let start : c.p.inside.start ≡ p.start = ap (λ (q : PartValue). q.start) c.p.view_is in
    let is : lookup (same_part (place_of p.id (p.start + c.args.at))) c.args.places.now ≡ Some c.in-Some.behind =
    sym c.behind.ensures ∙ c.in-Some.is in
    subst (λ n. AreSeen s c.args.visits.now c.pass.new.places p (c.in-Some.behind - n)) (sym start)
    (subst (λ places. AreSeen s c.args.visits.now places p (c.in-Some.behind - p.start))
    (sym c.in_ok-pass-in-Some.ensures)
    (seen_further s visits c.args.places.now p c.args.at c.in-Some.behind c.requires.within c.requires.seen is))

pub returns-in_ok-pass-in-Some-clause-kept : goal.returns-in_ok-pass-in-Some-clause-kept
returns-in_ok-pass-in-Some-clause-kept c = λ id k h. subst (λ places. is_seen places id k ≡ true)
    (sym c.in_ok-pass-in-Some.ensures) (passed_old c.args.places.now c.args.p c.args.at c.in-Some.behind id k h)

pub returns-in_ok-pass-in-Some-clause-added : goal.returns-in_ok-pass-in-Some-clause-added
returns-in_ok-pass-in-Some-clause-added c = added_none c.args.store.now c.args.p c.args.visits.now

pub returns-in_ok-mark-in-None-clause-seen : goal.returns-in_ok-mark-in-None-clause-seen
returns-in_ok-mark-in-None-clause-seen c =
    let s = c.args.store.now in
    let p = c.args.p in
    let visits = c.args.visits.now in
    let found : c.add_found.new.self ≡ with_found visits (procedure_at s p c.args.at) =
    c.in_ok-add_found-in-None.ensures ∙ ap (with_found visits) c.procedure_at.ensures in
    subst (λ now. AreSeen s now c.mark.new.self p (c.args.at + 1)) (sym found)
    (subst (λ places. AreSeen s (with_found visits (procedure_at s p c.args.at)) places p (c.args.at + 1))
    (sym c.in_ok-mark-in-None.ensures)
    (seen_new s visits c.args.places.now p c.args.at c.requires.within c.requires.visited c.requires.seen))

pub returns-in_ok-mark-in-None-clause-kept : goal.returns-in_ok-mark-in-None-clause-kept
returns-in_ok-mark-in-None-clause-kept c =
    let p = c.args.p in
    λ id k h. subst (λ places. is_seen places id k ≡ true) (sym c.in_ok-mark-in-None.ensures)
    (marked_old c.args.places.now (place_of p.id (p.start + c.args.at)) (p.start + p.len) id k h)

pub returns-in_ok-mark-in-None-clause-added : goal.returns-in_ok-mark-in-None-clause-added
returns-in_ok-mark-in-None-clause-added c =
    let s = c.args.store.now in
    let p = c.args.p in
    let visits = c.args.visits.now in
    let found : c.add_found.new.self ≡ with_found visits (procedure_at s p c.args.at) =
    c.in_ok-add_found-in-None.ensures ∙ ap (with_found visits) c.procedure_at.ensures in
    subst (AreAdded s p visits) (sym found) (added_found s p visits c.args.at c.requires.within)
