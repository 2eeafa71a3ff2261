use Rattle.std.proofs.Common.{◌≡◌, true, sym, subst, ap, ◌∙◌, map, ◌++◌, ◌∷◌, [], option_map, List, length, refl, arith}
use Rattle.cache_core.specs.CoreState.{CoreStateValue}
use Rattle.cache_core.specs.Steps.{is_legal}
use Rattle.cache_core.specs.declared.step.Step.{Step}
use Rattle.link_cache.specs.CacheState.{CacheStateValue}
use Rattle.link_cache.specs.Kept.{named_with, IsNew}
use Rattle.link_cache.proofs.Owed.{asks_for, owes}
use Rattle.link_cache.proofs.Keeping.{keeps_plain}
use Rattle.link_cache.proofs.Closing.{kept_moved, owed_bound, budget, asks_few}
use Rattle.link_cache.proofs.state.CacheState.take_step.Goals as goal

pub invariant_of-self-2 : goal.invariant_of-self-2
invariant_of-self-2 g c =
    let s = c.self.inside in
    let mark = g.V.Made.mark in
    let k = c.self.invariant.1 in
    let legal : is_legal s.core c.args.step ≡ true =
    subst (λ (x : CacheStateValue). is_legal x.core c.args.step ≡ true) (sym c.self.view_is) c.requires.legal in
    let new : IsNew (map mark s.named.items) (option_map mark c.args.name) =
    subst (λ (x : CacheStateValue). IsNew x.named (option_map mark c.args.name))
    (sym c.self.view_is) c.requires.new in
    let few = asks_few c.args.step in
    let owed = owed_bound s.opening s.core s.journal.items s.past k.run in
    let more = owes s.core c.args.step legal in
    let phases = ap (λ (x : CoreStateValue). x.phases) c.note.ensures.core in (
      rw c.note.ensures.core (omega (
        arith,
        few,
        owed,
        more,
        c.note.ensures.len,
        c.note.ensures.capacity,
        c.in_ok-make_room.ensures.journal_room,
      )),
      kept_moved _ _ _ _ _ _ _ _ _ _ s.past
          (c.name.ensures ∙ ap (λ ns. named_with (map mark ns) (option_map mark c.args.name)) c.make_room.ensures.named)
          c.make_room.ensures.slots
          refl
          c.note.ensures.core
          (c.note.ensures.journal ∙ ap (λ (js : List Step). js ++ c.args.step ∷ []) c.make_room.ensures.journal)
          (keeps_plain (map mark s.named.items) (option_map mark c.args.name) s.slots.items s.opening s.core
          s.journal.items s.past c.args.step k new c.requires.plain legal
          (budget s.opening s.core s.journal.items s.past (asks_for c.args.step) k.run
          (omega (
            arith,
            c.in_ok-make_room.ensures.few,
            c.make_room.new.journal.ok.0,
            s.journal.ok.0,
            ap length c.make_room.ensures.journal,
          )) (omega (arith, few)))),
    )
