-- What the tests ask of a pass. Own rule.
use Rattle.std.specs.Prelude.{◌≡◌, ℕ}
use Rattle.turnstile.specs.declared.claim.Claim.TheVariants.{Free}
use Rattle.turnstile.specs.declared.lock.Pass.{Pass}
use Rattle.turnstile.specs.declared.lock.Turnstile.{Turnstile}
use Rattle.turnstile.specs.Tokens.{id_of, lock_of, IsAway}

-- a pass of this lock for this seat, which hasn't the turn
abbrev pub IsIdle : {S : Type 0} → Turnstile S → ℕ → Pass S → Type 0
IsIdle lock seat pass = (lock_of pass ≡ id_of lock) × (pass.number ≡ seat) × IsAway pass

-- and claims nothing
abbrev pub IsReady : {S : Type 0} → Turnstile S → ℕ → Pass S → Type 0
IsReady lock seat pass = IsIdle lock seat pass × (pass.claim ≡ Free)
