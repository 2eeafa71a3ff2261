use Rattle.std.proofs.Common.{sym, ◌∙◌}
use Rattle.cache_wait.proofs.cache.SharedCache.release.Goals as goal

pub leave_turn-requires-clause-turn : goal.leave_turn-requires-clause-turn
leave_turn-requires-clause-turn g c = let t = c.take_turn-locked in (
  t.result,
  t.ensures.turn,
  λ m l ne. c.release.ensures.others m (λ e. ne (e ∙ (c.requires.lease.0
      ∙ sym t.ensures.seat.0))),
)
