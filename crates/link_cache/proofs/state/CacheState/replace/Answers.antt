use Rattle.std.proofs.lemmas.List.{length_push}
use Rattle.std.proofs.Common.{◌≡◌, ℕ, ◌^◌, ◌<◌, ◌+◌, true, sym, subst, ap, ◌∙◌, map, ◌++◌, ◌∷◌, [], option_map, List}
use Rattle.std.proofs.Common.{length, refl, arith, Some, None}
use Rattle.cache_core.specs.CoreState.{CoreStateValue}
use Rattle.cache_core.specs.Steps.{is_legal, after}
use Rattle.cache_core.specs.declared.step.Step.{Step}
use Rattle.cache_core.specs.declared.step.Step.TheVariants.{Evict, Reserve}
use Rattle.cache_core.proofs.Asks.{reserve_after_evict}
use Rattle.link_cache.specs.CacheState.{CacheStateValue}
use Rattle.link_cache.specs.Kept.{SlotValue, named_with, IsNew, IsKept, without_slot}
use Rattle.link_cache.proofs.Owed.{owes}
use Rattle.link_cache.proofs.Keeping.{keeps_reserve, keeps_evict}
use Rattle.link_cache.proofs.Closing.{kept_moved, owed_bound, budget}
use Rattle.link_cache.proofs.state.CacheState.replace.Goals as goal

pub note-requires-2-clause-legal : goal.note-requires-2-clause-legal
note-requires-2-clause-legal g c =
    let s = c.self.inside in
    let step : Step = Evict c.args.seat c.args.place c.args.gone in
    let legal : is_legal s.core step ≡ true =
    subst (λ (x : CacheStateValue). is_legal x.core step ≡ true) (sym c.self.view_is) c.requires.legal in
    rw (c.note.ensures.core, c.next_res-res.ensures)
    (reserve_after_evict s.core c.args.seat c.args.place c.args.gone c.self.invariant.1.run.sound legal)

pub invariant_of-self-2 : goal.invariant_of-self-2
invariant_of-self-2 g c =
    let s = c.self.inside in
    let mark = g.V.Made.mark in
    let k = c.self.invariant.1 in
    let first : Step = Evict c.args.seat c.args.place c.args.gone in
    let second : Step = Reserve c.args.seat c.args.place s.core.next_res in
    let legal : is_legal s.core first ≡ true =
    subst (λ (x : CacheStateValue). is_legal x.core first ≡ true) (sym c.self.view_is) c.requires.legal in
    let names : List (List ℕ) = named_with (map mark s.named.items) (option_map mark c.args.name) in
    let new : IsNew (map mark s.named.items) (option_map mark c.args.name) =
    subst (λ (x : CacheStateValue). IsNew x.named (option_map mark c.args.name))
    (sym c.self.view_is) c.requires.new in
    let within : c.args.place < length names =
    subst (λ (x : CacheStateValue). c.args.place < length (named_with x.named (option_map mark c.args.name)))
    (sym c.self.view_is) c.requires.within in
    let middle : CoreStateValue = after s.core first in
    let places : List SlotValue = without_slot c.args.gone s.slots.items in
    let steps : List Step = s.journal.items ++ first ∷ [] in
    let few : s.past.steps + length s.journal.items < 2 ^ 61 =
    omega (
      arith,
      c.in_ok-make_room.ensures.few,
      c.make_room.new.journal.ok.0,
      s.journal.ok.0,
      ap length c.make_room.ensures.journal,
    ) in
    let all = budget s.opening s.core s.journal.items s.past 4 k.run few (omega arith) in
    let owed = owed_bound s.opening s.core s.journal.items s.past k.run in
    let more = owes s.core first legal in
    let long = length_push s.journal.items first in
    let once : IsKept names places s.opening middle steps s.past =
    keeps_evict (map mark s.named.items) (option_map mark c.args.name) s.slots.items s.opening s.core
    s.journal.items s.past c.args.seat c.args.place c.args.gone k new within legal (omega (arith, all)) in
    let then_legal : is_legal middle second ≡ true =
    reserve_after_evict s.core c.args.seat c.args.place c.args.gone k.run.sound legal in
    let again = owes middle second then_legal in
    let twice = keeps_reserve names None places s.opening middle steps s.past c.args.seat c.args.place s.core.next_res
    once (λ m e i h. (let v : None ≡ Some m = e in cc)) within then_legal (omega (arith, all, more, long)) in
    let core_is : c.note-2.new.core ≡ after middle second = c.note-2.ensures.core
    ∙ (ap (λ (x : CoreStateValue). after x (Reserve c.args.seat c.args.place c.next_res-res.result))
    c.note.ensures.core ∙ ap (λ (n : ℕ). after middle (Reserve c.args.seat c.args.place n)) c.next_res-res.ensures)
    in (
      rw core_is (omega (
        arith,
        owed,
        more,
        again,
        c.note.ensures.len,
        c.note.ensures.capacity,
        c.note-2.ensures.len,
        c.note-2.ensures.capacity,
        c.in_ok-make_room.ensures.journal_room,
      )),
      kept_moved _ _ _ _ _ _ _ _ _ _ s.past
          (c.name.ensures ∙ ap (λ ns. named_with (map mark ns) (option_map mark c.args.name)) c.make_room.ensures.named)
          (c.add_slot.ensures ∙ (ap (λ (ps : List SlotValue). ps ++ record { res = c.next_res-res.result; mark = None }
          ∷ []) (c.remove.ensures.items ∙ ap (without_slot c.args.gone) c.make_room.ensures.slots)
          ∙ ap (λ (n : ℕ). places ++ record { res = n; mark = None } ∷ []) c.next_res-res.ensures))
          refl
          core_is
          (c.note-2.ensures.journal ∙ (ap (λ (js : List Step). js
          ++ Reserve c.args.seat c.args.place c.next_res-res.result ∷ [])
          (c.note.ensures.journal ∙ ap (λ (js : List Step). js ++ first ∷ []) c.make_room.ensures.journal)
          ∙ ap (λ (n : ℕ). steps ++ Reserve c.args.seat c.args.place n ∷ []) c.next_res-res.ensures))
          twice,
    )
