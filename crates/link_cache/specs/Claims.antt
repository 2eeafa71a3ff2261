-- What a seat may claim: what it builds or holds.
use Rattle.std.specs.Prelude.{◌≡◌, ◌≢◌, ℕ, Bool, if◌then◌else◌}
use Rattle.cache_core.specs.Lookup.{phase_of, busy}
use Rattle.cache_core.specs.declared.step.Phase.{Phase}
use Rattle.cache_core.specs.declared.step.Phase.TheVariants.{Idle, Building, Holding}
use Rattle.link_cache.specs.CacheState.{CacheStateValue}
use Rattle.link_cache.specs.Look.{LookValue, Has, Builds, Waits}

-- the claim of a seat
abbrev pub claim_of : CacheStateValue → ℕ → Phase
claim_of state seat = busy (phase_of state.core.phases seat)

-- the claims of other seats are as they were
abbrev pub LeavesOthers : ℕ → CacheStateValue → CacheStateValue → Type 0
LeavesOthers seat old new = (other : ℕ) → other ≢ seat → claim_of new other ≡ claim_of old other

-- the claim after a call that makes a step where it is legal: what the step leads to, else what was claimed before
abbrev pub claim_if : Bool → Phase → Phase → Phase
claim_if legal made before = if legal then made else before

-- what a look tells is what its seat claims
abbrev pub ClaimsTold : LookValue → Phase → Type 0
ClaimsTold (Has ticket) phase = phase ≡ Holding ticket.res
ClaimsTold (Builds ticket) phase = phase ≡ Building ticket.res
ClaimsTold Waits phase = phase ≡ Idle
