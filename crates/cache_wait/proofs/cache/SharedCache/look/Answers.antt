use Rattle.std.proofs.Common.{sym, ◌∙◌}
use Rattle.cache_wait.proofs.cache.SharedCache.look.Goals as goal

-- the seat that looked is the one that has the turn, so the claims of all others are as it found them
pub leave_turn-requires-clause-turn : goal.leave_turn-requires-clause-turn
leave_turn-requires-clause-turn g c = let i = c.loop.invariant in
    let same = c.number-seat.ensures ∙ (sym c.take_turn-locked.ensures.seat.0 ∙ sym i.1) in
    (c.loop.locked, i.3, λ m l ne. c.look.ensures.others m (λ e. ne (e ∙ same)))

pub rest-locked-requires-clause-turn : goal.rest-locked-requires-clause-turn
rest-locked-requires-clause-turn g c = let i = c.loop.invariant in
    let same = c.number-seat.ensures ∙ (sym c.take_turn-locked.ensures.seat.0 ∙ sym i.1) in
    (c.loop.locked, i.3, λ m l ne. c.look.ensures.others m (λ e. ne (e ∙ same)))

pub leave_turn-requires-in-Have-clause-turn : goal.leave_turn-requires-in-Have-clause-turn
leave_turn-requires-in-Have-clause-turn g c = let i = c.loop.invariant in
    let same = c.number-seat.ensures ∙ (sym c.take_turn-locked.ensures.seat.0 ∙ sym i.1) in
    (c.loop.locked, i.3, λ m l ne. c.look.ensures.others m (λ e. ne (e ∙ same)))

pub leave_turn-requires-in-Build-clause-turn : goal.leave_turn-requires-in-Build-clause-turn
leave_turn-requires-in-Build-clause-turn g c = let i = c.loop.invariant in
    let same = c.number-seat.ensures ∙ (sym c.take_turn-locked.ensures.seat.0 ∙ sym i.1) in
    (c.loop.locked, i.3, λ m l ne. c.look.ensures.others m (λ e. ne (e ∙ same)))
