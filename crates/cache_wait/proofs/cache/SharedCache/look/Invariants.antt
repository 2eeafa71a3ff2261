use Rattle.std.proofs.Common.{◌≡◌}
use Rattle.turnstile.specs.declared.claim.Claim.TheVariants.{Free}
use Rattle.turnstile.specs.Tokens.{lock_of, HasTaken}
use Rattle.cache_wait.specs.Claims.{claim_at}
use Rattle.cache_wait.proofs.cache.SharedCache.look.Given as goal

-- the pass has the turn and took this value, which lists no claim of its seat; the share is as it was
abbrev pub invariant-loop : goal.invariant-loop
invariant-loop g l =
    (lock_of l.pass ≡ lock_of l.initial.pass) × (l.pass.number ≡ l.initial.pass.number) × (l.pass.claim ≡ Free)
    × HasTaken l.pass l.locked × (claim_at l.locked.state l.pass.number ≡ Free)
    × (l.share.parts ≡ 1) × (l.share.amount ≡ l.initial.share.amount)
