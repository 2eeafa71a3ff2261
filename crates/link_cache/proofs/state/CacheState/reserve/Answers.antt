use Rattle.std.proofs.Common.{◌≡◌, ◌<◌, true, sym, subst, ap, ◌∙◌, map, ◌++◌, ◌∷◌, [], option_map, List, length, refl}
use Rattle.std.proofs.Common.{arith, None}
use Rattle.cache_core.specs.Steps.{is_legal}
use Rattle.cache_core.specs.declared.step.Step.{Step}
use Rattle.cache_core.specs.declared.step.Step.TheVariants.{Reserve}
use Rattle.link_cache.specs.CacheState.{CacheStateValue}
use Rattle.link_cache.specs.Kept.{SlotValue, named_with, IsNew}
use Rattle.link_cache.proofs.Owed.{owes}
use Rattle.link_cache.proofs.Keeping.{keeps_reserve}
use Rattle.link_cache.proofs.Closing.{kept_moved, owed_bound, budget}
use Rattle.link_cache.proofs.state.CacheState.reserve.Goals as goal

pub invariant_of-self-2 : goal.invariant_of-self-2
invariant_of-self-2 g c =
    let s = c.self.inside in
    let mark = g.V.Made.mark in
    let k = c.self.invariant.1 in
    let step : Step = Reserve c.args.seat c.args.place c.args.res in
    let legal : is_legal s.core step ≡ true =
    subst (λ (x : CacheStateValue). is_legal x.core step ≡ true) (sym c.self.view_is) c.requires.legal in
    let new : IsNew (map mark s.named.items) (option_map mark c.args.name) =
    subst (λ (x : CacheStateValue). IsNew x.named (option_map mark c.args.name))
    (sym c.self.view_is) c.requires.new in
    let within : c.args.place < length (named_with (map mark s.named.items) (option_map mark c.args.name)) =
    subst (λ (x : CacheStateValue). c.args.place < length (named_with x.named (option_map mark c.args.name)))
    (sym c.self.view_is) c.requires.within in
    let owed = owed_bound s.opening s.core s.journal.items s.past k.run in
    let more = owes s.core step legal in (
      rw c.note.ensures.core (omega (
        arith,
        owed,
        more,
        c.note.ensures.len,
        c.note.ensures.capacity,
        c.in_ok-make_room.ensures.journal_room,
      )),
      kept_moved _ _ _ _ _ _ _ _ _ _ s.past
          (c.name.ensures ∙ ap (λ ns. named_with (map mark ns) (option_map mark c.args.name)) c.make_room.ensures.named)
          (c.add_slot.ensures ∙ ap (λ (ps : List SlotValue). ps ++ record { res = c.args.res; mark = None }
          ∷ []) c.make_room.ensures.slots)
          refl
          c.note.ensures.core
          (c.note.ensures.journal ∙ ap (λ (js : List Step). js ++ step ∷ []) c.make_room.ensures.journal)
          (keeps_reserve (map mark s.named.items) (option_map mark c.args.name) s.slots.items s.opening s.core
          s.journal.items s.past c.args.seat c.args.place c.args.res k new within legal
          (budget s.opening s.core s.journal.items s.past 3 k.run
          (omega (
            arith,
            c.in_ok-make_room.ensures.few,
            c.make_room.new.journal.ok.0,
            s.journal.ok.0,
            ap length c.make_room.ensures.journal,
          )) (omega arith))),
    )
