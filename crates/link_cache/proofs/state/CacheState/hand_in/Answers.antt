use Rattle.std.specs.List.{slice_get}
use Rattle.cache_core.specs.declared.step.Entry.{Entry}
use Rattle.link_cache.specs.Ticket.{Ticket}
use Rattle.link_cache.specs.Orders.{IsInOrder}
use Rattle.std.proofs.Common.{◌≡◌, ℕ, true, sym, subst, ap, ◌∙◌, map, List, refl, arith, Some}
use Rattle.cache_core.specs.Steps.{is_legal}
use Rattle.cache_core.specs.declared.step.Step.{Step}
use Rattle.cache_core.specs.declared.step.Step.TheVariants.{Publish}
use Rattle.link_cache.specs.CacheState.{CacheStateValue}
use Rattle.link_cache.proofs.Keeping.{keeps_publish}
use Rattle.link_cache.proofs.Closing.{kept_moved, owes_one, published}
use Rattle.link_cache.proofs.state.CacheState.hand_in.Goals as goal

pub note-requires-clause-room : goal.note-requires-clause-room
note-requires-clause-room g c =
    let s = c.self.inside in
    let step : Step = Publish c.order.inside.seat c.order.inside.res in
    let legal : is_legal s.core step ≡ true = sym c.legal.ensures ∙ c.if-legal.true in
    let more = owes_one s.core step legal refl in
    omega (arith, more, c.self.invariant.0)

pub invariant_of-self : goal.invariant_of-self
invariant_of-self g c =
    let s = c.self.inside in
    let o = c.order.inside in
    let mark = g.V.Made.mark in
    let k = c.self.invariant.1 in
    let step : Step = Publish o.seat o.res in
    let legal : is_legal s.core step ≡ true = sym c.legal.ensures ∙ c.if-legal.true in
    let more = owes_one s.core step legal refl in
    let found = published s.core o.seat o.res k.run.sound legal in
    let e : Entry = found.1.0 in
    let m : List ℕ = mark (g.V.Made.made_for c.args.value.value) in
    let ticket : Ticket = record { seat = o.seat; res = o.res; mark = mark o.key } in
    let cached : CacheStateValue = record {
      named = map mark s.named.items;
      opening = s.opening;
      core =
          s.core;
      journal = s.journal.items;
      past = s.past;
    } in
    let listed : IsInOrder c.args.self.now ticket =
    subst (λ (t : Ticket). IsInOrder c.args.self.now t) (sym c.order.view_is) c.requires.order in
    let order : IsInOrder cached ticket = subst (λ (x : CacheStateValue). IsInOrder x ticket)
    (sym c.self.view_is) listed in
    let same : mark o.key ≡ m = ap (λ (t : Ticket). t.mark) c.order.view_is ∙ sym c.requires.value in
    let name : slice_get (map mark s.named.items) e.key ≡ Some m = order found.0 e found.1.1 ∙ ap Some same in (
      rw c.note.ensures.core (omega (arith, more, c.self.invariant.0, c.note.ensures.len, c.note.ensures.capacity)),
      kept_moved _ _ _ _ _ _ _ _ _ _ s.past refl c.fill.ensures refl c.note.ensures.core c.note.ensures.journal
          (keeps_publish (map mark s.named.items) s.slots.items s.opening s.core s.journal.items s.past o.seat o.res m e
          k legal found.1.1 name),
    )
