use Rattle.std.proofs.Common.{◌≡◌}
use Rattle.turnstile.specs.Tokens.{id_of, lock_of}
use Rattle.turnstile.specs.declared.claim.Claim.TheVariants.{Free}
use Rattle.speed.proofs.wait.rounds.Given as goal

-- the seat is of this cache, and claims nothing
abbrev pub invariant-loop : goal.invariant-loop
invariant-loop g l = (lock_of l.seat.pass ≡ id_of l.cache.lock) × (l.seat.pass.claim ≡ Free)
