use Rattle.std.proofs.Common.{◌≡◌, true, sym, ◌∙◌, map, refl, arith}
use Rattle.cache_core.specs.Steps.{is_legal}
use Rattle.cache_core.specs.declared.step.Step.{Step}
use Rattle.cache_core.specs.declared.step.Step.TheVariants.{Withdraw}
use Rattle.link_cache.proofs.Keeping.{keeps_withdraw}
use Rattle.link_cache.proofs.Closing.{kept_moved, owes_one}
use Rattle.link_cache.proofs.state.CacheState.give_up.Goals as goal

pub note-requires-clause-room : goal.note-requires-clause-room
note-requires-clause-room g c =
    let s = c.self.inside in
    let step : Step = Withdraw c.args.seat c.args.res in
    let legal : is_legal s.core step ≡ true = sym c.legal.ensures ∙ c.if-legal.true in
    let more = owes_one s.core step legal refl in
    omega (arith, more, c.self.invariant.0)

pub invariant_of-self : goal.invariant_of-self
invariant_of-self g c =
    let s = c.self.inside in
    let mark = g.V.Made.mark in
    let k = c.self.invariant.1 in
    let step : Step = Withdraw c.args.seat c.args.res in
    let legal : is_legal s.core step ≡ true = sym c.legal.ensures ∙ c.if-legal.true in
    let more = owes_one s.core step legal refl in (
      rw c.note.ensures.core (omega (arith, more, c.self.invariant.0, c.note.ensures.len, c.note.ensures.capacity)),
      kept_moved _ _ _ _ _ _ _ _ _ _ s.past refl c.remove.ensures.items refl c.note.ensures.core c.note.ensures.journal
          (keeps_withdraw (map mark s.named.items) s.slots.items s.opening s.core s.journal.items s.past c.args.seat
          c.args.res k legal),
    )
