-- What a shared cache lists for its seats, and what its calls do to that. Own rule: who builds or holds an entry claims
-- it; who waits or is idle claims nothing.
use Rattle.std.specs.Prelude.{◌≡◌, ◌≢◌, ℕ, List}
use Rattle.cache_core.specs.Lookup.{phase_of}
use Rattle.cache_core.specs.declared.step.Phase.{Phase}
use Rattle.cache_core.specs.declared.step.Phase.TheVariants.{Building, Holding}
use Rattle.link_cache.specs.CacheState.{CacheStateValue}
use Rattle.link_cache.specs.Look.{LookValue, Has, Builds as ToBuild, Waits}
use Rattle.turnstile.specs.declared.claim.Claim.{Claim}
use Rattle.turnstile.specs.declared.claim.Claim.TheVariants.{Free, Builds, Holds}

-- what a seat in a phase claims
abbrev pub claim_from : Phase → Claim
claim_from (Building r) = Builds r
claim_from (Holding r) = Holds r
claim_from _ = Free

-- what the cache lists for a seat
abbrev pub claim_at : CacheStateValue → ℕ → Claim
claim_at state seat = claim_from (phase_of state.core.phases seat)

-- the claims of other seats are as they were
abbrev pub LeavesOtherClaims : ℕ → CacheStateValue → CacheStateValue → Type 0
LeavesOtherClaims seat old new = (m : ℕ) → m ≢ seat → claim_at new m ≡ claim_at old m

-- a seat that asked for a key has what it was told: a lease or an order of its own, of that key, which it claims; or
-- nothing, and it claims nothing
abbrev pub FitsLook : ℕ → List ℕ → LookValue → Claim → Type 0
FitsLook seat mark (Has ticket) claim = (ticket.seat ≡ seat) × (ticket.mark ≡ mark) × (claim ≡ Holds ticket.res)
FitsLook seat mark (ToBuild ticket) claim = (ticket.seat ≡ seat) × (ticket.mark ≡ mark) × (claim ≡ Builds ticket.res)
FitsLook seat mark Waits claim = claim ≡ Free

-- how many leases were given, or will be, where a seat was told this
abbrev pub leases_told : LookValue → ℕ
leases_told (Has ticket) = 1
leases_told (ToBuild ticket) = 1
leases_told Waits = 0
