use Rattle.std.proofs.Common.{sym, ◌∙◌}
use Rattle.cache_wait.proofs.cache.SharedCache.build.Goals as goal

pub leave_turn-requires-clause-turn : goal.leave_turn-requires-clause-turn
leave_turn-requires-clause-turn g c = let t = c.take_turn-locked in (
  t.result,
  t.ensures.turn,
  λ m l ne. c.publish-lease.ensures.others m (λ e. ne (e ∙ (c.requires.builds.0
      ∙ sym t.ensures.seat.0))),
)

pub leave_turn-requires-2-clause-turn : goal.leave_turn-requires-2-clause-turn
leave_turn-requires-2-clause-turn g c = let t = c.take_turn-locked in (
  t.result,
  t.ensures.turn,
  λ m l ne. c.withdraw.ensures.others m (λ e. ne (e ∙ (c.requires.builds.0
      ∙ sym t.ensures.seat.0))),
)
