use Rattle.turnstile_tests.specs.Passes.{IsReady}
use Rattle.turnstile_tests.proofs.room.visit.Given as goal

-- the pass is out of the room
abbrev pub invariant-loop : goal.invariant-loop
invariant-loop g l = IsReady l.lock l.initial.pass.number l.pass
