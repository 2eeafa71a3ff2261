use Rattle.std.proofs.Common.{◌≡◌, slice_index_or}
use Rattle.turnstile.specs.declared.claim.Claim.TheVariants.{Free}
use Rattle.turnstile.specs.Tokens.{id_of, lock_of, HasTaken}
use Rattle.turnstile_tests.proofs.room.enter.Given as goal

-- the pass has the turn and took this room; it is the pass it was, and claims nothing, as the room lists
abbrev pub invariant-loop : goal.invariant-loop
invariant-loop g l =
    (lock_of l.pass ≡ id_of l.lock) × (l.pass.number ≡ l.initial.pass.number) ×
    (l.pass.claim ≡ Free) × HasTaken l.pass l.room
    × (slice_index_or l.room.claims l.pass.number Free ≡ Free)
