use Rattle.std.proofs.Common.{◌≡◌}
use Rattle.turnstile.proofs.lock.Turnstile.wait_for_turn.Given as goal

abbrev pub invariant-loop : goal.invariant-loop
invariant-loop g l = (l.pass.seat.table_id ≡ l.initial.pass.seat.table_id) ×
    (l.pass.seat.me ≡ l.initial.pass.seat.me) × (l.pass.number ≡ l.initial.pass.number) ×
    (l.pass.claim ≡ l.initial.pass.claim)
