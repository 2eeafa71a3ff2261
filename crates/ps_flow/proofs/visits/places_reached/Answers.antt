use Rattle.std.proofs.Common.{◌≡◌, ◌∙◌, Some, None, ap, subst, sym}
use Rattle.std.specs.List.{slice_get}
use Rattle.ps_flow.specs.Code.Visits.{with_visit}
use Rattle.ps_flow.proofs.GoingLemmas.{IsGoing, going_all, going_fewer, going_first, going_more}
use Rattle.ps_flow.proofs.VisitLemmas.{at_place}
use Rattle.ps_flow.proofs.visits.places_reached.Goals as goal

pub loop-q-init : goal.loop-q-init
loop-q-init c =
    let s = c.args.store.now in
    let p = c.args.p in
    let new : c.add.new.self ≡ with_visit c.new-visits.result p = c.in_ok-add.ensures in
    subst (λ places. IsGoing s p c.add.new.self places 0) (sym c.new-places.ensures)
    (subst (λ visits. IsGoing s p visits _ 0)
    (sym (new ∙ ap (λ visits. with_visit visits p) c.new-visits.ensures)) (going_first s p))

pub look_at-requires-clause-visited : goal.look_at-requires-clause-visited
look_at-requires-clause-visited c =
    at_place c.loop-q.visits c.loop-q.number c.in-Some.q (sym c.at.ensures.value ∙ c.in-Some.is)

pub loop-q-preserved : goal.loop-q-preserved
loop-q-preserved c =
    let at : slice_get c.loop-q.visits c.loop-q.number ≡ Some c.in-Some.q = sym c.at.ensures.value ∙ c.in-Some.is in
    going_more c.args.store.now c.args.p c.loop-q.visits c.look_at.new.visits c.loop-q.places c.look_at.new.places
    c.loop-q.number c.in-Some.q c.loop-q.invariant at c.in_ok-look_at.ensures.seen c.in_ok-look_at.ensures.done
    c.in_ok-look_at.ensures.kept c.in_ok-look_at.ensures.added

pub loop-q-smaller : goal.loop-q-smaller
loop-q-smaller c =
    let at : slice_get c.loop-q.visits c.loop-q.number ≡ Some c.in-Some.q = sym c.at.ensures.value ∙ c.in-Some.is in
    going_fewer c.args.store.now c.args.p c.loop-q.visits c.look_at.new.visits c.loop-q.places c.loop-q.number
    c.in-Some.q c.loop-q.invariant at c.in_ok-look_at.ensures.added

pub returns : goal.returns
returns c =
    let at : slice_get c.loop-q.visits c.loop-q.number ≡ None = sym c.at.ensures.value ∙ c.in_default.is in
    going_all c.args.store.now c.args.p c.loop-q.visits c.loop-q.places c.loop-q.number c.loop-q.invariant at
