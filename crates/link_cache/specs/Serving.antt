-- One seat that takes a lease and gives it back before the next.
use Rattle.std.specs.Prelude.{◌≡◌, ℕ, ◌+◌, List, [], ◌∷◌, length}
use Rattle.cache_core.specs.Lru.{used, built_by, evicted_by, keys_of}
use Rattle.cache_core.specs.CoreState.{CoreStateValue}
use Rattle.cache_core.specs.Steps.{asked}
use Rattle.cache_core.specs.declared.step.Phase.TheVariants.{Idle, Holding}
use Rattle.cache_core.specs.declared.step.Step.{Step}
use Rattle.cache_core.specs.declared.step.Step.TheVariants.{Hit, Evict, Reserve, Publish}
use Rattle.link_cache.specs.CacheState.{CacheStateValue, did, counts_of, IsNamed}
use Rattle.link_cache.specs.Ticket.{Ticket}

-- the steps by which a seat comes to hold a key's entry, by the step that asks
abbrev pub taking_by : ℕ → Step → List Step
taking_by next (Evict seat key res) = Evict seat key res ∷ Reserve seat key next ∷ Publish seat next ∷ []
taking_by next (Reserve seat key res) = Reserve seat key res ∷ Publish seat res ∷ []
taking_by next step = step ∷ []

-- the steps by which the one seat comes to hold the entry of a key
abbrev pub taking : CoreStateValue → ℕ → List Step
taking core key = taking_by core.next_res (asked core 0 key)

-- the residency of the entry that it comes to hold
abbrev pub taken : ℕ → Step → ℕ
taken next (Hit seat key res) = res
taken next (Reserve seat key res) = res
taken next _ = next

-- the one seat was lent the value of a key, which stands at a place
pub record IsLent (old : CacheStateValue) (mark : List ℕ) (lease : Ticket) (new : CacheStateValue) (place : ℕ)
    : Type 0 where
  pub name : IsNamed old.named mark place new.named
  pub steps : new ≡ did old new.named (taking old.core place)
  pub seat : lease.seat ≡ 0
  pub res : lease.res ≡ taken old.core.next_res (asked old.core 0 place)
  pub key : lease.mark ≡ mark
  pub holds : new.core.phases ≡ Holding lease.res ∷ []

-- the one seat used a key, and is idle again: the keys stand by their last use, and one more lease, what
-- was built and what was evicted are those of the walk
pub record IsOneUse (old new : CacheStateValue) (place : ℕ) : Type 0 where
  pub keys : keys_of new.core ≡ used old.core.capacity (keys_of old.core) place
  pub idle : new.core.phases ≡ Idle ∷ []
  pub capacity : new.core.capacity ≡ old.core.capacity
  pub leases : (counts_of new).leases ≡ (counts_of old).leases + 1
  pub built : (counts_of new).built ≡ (counts_of old).built + built_by (keys_of old.core) place
  pub evicted : (counts_of new).evicted ≡ (counts_of old).evicted
      + evicted_by old.core.capacity (keys_of old.core) place
