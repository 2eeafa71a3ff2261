-- The cache as contracts see it: the marks of the keys named, the machine, and the journal of its steps.
use Rattle.std.specs.Prelude.{◌≡◌, ◌⊎◌, ℕ, ◌+◌, ◌-◌, ◌<◌, List, [], ◌∷◌, ◌++◌, Bool, true, Option, Some, length}
use Rattle.std.specs.Prelude.{count_by, slice_get}
use Rattle.cache_core.specs.CoreState.{CoreStateValue}
use Rattle.cache_core.specs.Steps.{asked, settled, empty_core}
use Rattle.cache_core.specs.Replay.{after_all, is_lease, is_reserve, is_evict, is_withdraw}
use Rattle.cache_core.specs.declared.step.Phase.{Phase}
use Rattle.cache_core.specs.declared.step.Phase.TheVariants.{Building, Holding}
use Rattle.cache_core.specs.declared.step.Step.{Step}
use Rattle.cache_core.specs.declared.step.Step.TheVariants.{Hit, Evict, Reserve, Withdraw, Release}
use Rattle.link_cache.specs.Kept.{named_with, IsNew}
use Rattle.link_cache.specs.Look.{LookValue, Has, Builds, Waits}
use Rattle.link_cache.specs.declared.counts.Past.{Past}
use Rattle.link_cache.specs.declared.counts.Counts.{Counts}

-- a cache: the marks of the keys named, the machine at the opening and now, the steps between, and what the journals
-- that were settled amount to
pub record CacheStateValue : Type 0 where
  pub named : List (List ℕ)
  pub opening : CoreStateValue
  pub core : CoreStateValue
  pub journal : List Step
  pub past : Past

-- the cache once steps were made, with these keys named
abbrev pub did : CacheStateValue → List (List ℕ) → List Step → CacheStateValue
did state named steps =
    record {
      named = named;
      opening = state.opening;
      core = after_all state.core steps;
      journal = state.journal ++ steps;
      past = state.past;
    }

-- a step where it is legal, else nothing
abbrev pub did_if : Bool → CacheStateValue → Step → CacheStateValue
did_if true state step = did state state.named (step ∷ [])
did_if _ state step = state

-- the steps by which a seat asks for a key: the one that is legal, and after an eviction a reservation
abbrev pub asking_from : ℕ → Step → List Step
asking_from next (Evict seat key res) = Evict seat key res ∷ Reserve seat key next ∷ []
asking_from next step = step ∷ []

-- the same for a seat and a key in a state
abbrev pub asking : CoreStateValue → ℕ → ℕ → List Step
asking core seat key = asking_from core.next_res (asked core seat key)

-- what a seat is told that asks for a key
abbrev pub told_by : ℕ → ℕ → List ℕ → Step → LookValue
told_by seat next mark (Hit s key res) = Has (record { seat = seat; res = res; mark = mark })
told_by seat next mark (Evict s key res) = Builds (record { seat = seat; res = next; mark = mark })
told_by seat next mark (Reserve s key res) = Builds (record { seat = seat; res = res; mark = mark })
told_by seat next mark _ = Waits

-- a key is named at a place, at the end of the list if it wasn't there
pub record IsNamed (named : List (List ℕ)) (mark : List ℕ) (place : ℕ) (now : List (List ℕ)) : Type 0 where
  pub here : slice_get now place ≡ Some mark
  pub list : (now ≡ named) ⊎ (now ≡ named ++ mark ∷ [])

-- the name to give to a key that stands at a place, or will: none where it is there already
pub record IsNaming (named : List (List ℕ)) (mark : List ℕ) (place : ℕ) (name : Option (List ℕ)) : Type 0 where
  pub new : IsNew named name
  pub within : place < length (named_with named name)
  pub list : IsNamed named mark place (named_with named name)

-- a seat looked for a key: it named it at a place, did the steps that ask for it, and was told of them
pub record Looked (seat : ℕ) (mark : List ℕ) (old : CacheStateValue) (told : LookValue) (new : CacheStateValue)
    (place : ℕ) : Type 0 where
  pub name : IsNamed old.named mark place new.named
  pub answer : told ≡ told_by seat old.core.next_res mark (asked old.core seat place)
  pub steps : new ≡ did old new.named (asking old.core seat place)

-- the counts since the cache was made
abbrev pub counts_of : CacheStateValue → Counts
counts_of state =
    record {
      leases = state.past.leases + count_by is_lease state.journal;
      built = state.past.built + count_by is_reserve state.journal - count_by is_withdraw state.journal;
      evicted = state.past.evicted + count_by is_evict state.journal;
      resident = length state.core.entries;
      keys = length state.named;
    }

-- the cache with its journal counted and emptied, and every seat idle
abbrev pub settled_cache : CacheStateValue → CacheStateValue
settled_cache state =
    record {
      named = state.named;
      opening = settled state.core;
      core = settled state.core;
      journal = [];
      past = record {
        steps = state.past.steps + length state.journal;
        leases = (counts_of state).leases;
        built = (counts_of state).built;
        evicted = (counts_of state).evicted;
      };
    }

-- an empty cache
abbrev pub empty_cache : ℕ → ℕ → CacheStateValue
empty_cache capacity seats =
    record {
      named = [];
      opening = empty_core capacity seats;
      core = empty_core capacity seats;
      journal = [];
      past = record { steps = 0; leases = 0; built = 0; evicted = 0 };
    }

-- the cache once a seat in a phase was cleared
abbrev pub cleared : CacheStateValue → ℕ → Phase → CacheStateValue
cleared state seat (Building res) = did state state.named (Withdraw seat res ∷ [])
cleared state seat (Holding res) = did state state.named (Release seat res ∷ [])
cleared state seat _ = state
