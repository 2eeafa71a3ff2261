-- A cache of one seat, which takes a lease and gives it back before the next: it keeps its keys in the order of
-- their last use, and the least recently used one goes first.
use Rattle.std.specs.Prelude.{◌≡◌, ℕ, ◌+◌, List, [], ◌∷◌, ◌++◌, Bool, false, not, ◌==◌, nat_le, length, filter, drop}
use Rattle.std.specs.Prelude.{map, count_by, if◌then◌else◌}
use Rattle.std.specs.List.{list_any}
use Rattle.cache_core.specs.CoreState.{CoreStateValue}
use Rattle.cache_core.specs.Steps.{asked}
use Rattle.cache_core.specs.Replay.{Replays, after_all, is_wait, is_reserve, is_evict}
use Rattle.cache_core.specs.declared.step.Entry.{Entry}
use Rattle.cache_core.specs.declared.step.Step.{Step}
use Rattle.cache_core.specs.declared.step.Step.TheVariants.{Hit, Evict, Reserve, Publish, Release}
use Rattle.cache_core.specs.declared.step.Phase.TheVariants.{Idle}

-- whether a key is listed
abbrev pub is_listed : ℕ → List ℕ → Bool
is_listed key keys = list_any (λ k. k == key) keys

-- the keys without one
abbrev pub without_key : ℕ → List ℕ → List ℕ
without_key key keys = filter (λ k. not (k == key)) keys

-- the keys once one was used: a listed key moves to the end; else, where all places are used, the
-- first is dropped, and the key is put at the end
unfoldable pub used : ℕ → List ℕ → ℕ → List ℕ
used capacity keys key =
    (if is_listed key keys then without_key key keys
    else if nat_le capacity (length keys) then drop 1 keys
    else keys)
    ++ key ∷ []

-- how many values a use builds: that of a key which isn't listed
abbrev pub built_by : List ℕ → ℕ → ℕ
built_by keys key = if is_listed key keys then 0 else 1

-- how many entries a use evicts: one for a key which isn't listed, where all places are used
abbrev pub evicted_by : ℕ → List ℕ → ℕ → ℕ
evicted_by capacity keys key = if is_listed key keys then 0 else if nat_le capacity (length keys) then 1 else 0

-- the walk over the keys that are used, one after the other: the keys that are listed, the least recently used
-- first, and how many values were built and entries evicted
pub record Walk : Type 0 where
  pub keys : List ℕ
  pub built : ℕ
  pub evicted : ℕ

-- the walk after one more use
abbrev pub walk_on : ℕ → Walk → ℕ → Walk
walk_on capacity walk key =
    record {
      keys = used capacity walk.keys key;
      built = walk.built + built_by walk.keys key;
      evicted = walk.evicted + evicted_by capacity walk.keys key;
    }

-- the walk after some uses
abbrev pub walked : ℕ → Walk → List ℕ → Walk
walked capacity walk [] = walk
walked capacity walk (key ∷ keys) = walked capacity (walk_on capacity walk key) keys

-- the keys of a state, in the order of their last use
abbrev pub keys_of : CoreStateValue → List ℕ
keys_of core = map (λ (e : Entry). e.key) core.entries

-- the steps by which the one seat is served a key and gives its lease back, by the step that asks for it
abbrev pub serving_by : ℕ → Step → List Step
serving_by next (Hit seat key res) = Hit seat key res ∷ Release seat res ∷ []
serving_by next (Evict seat key res) =
    Evict seat key res ∷ Reserve seat key next ∷ Publish seat next ∷ Release seat next ∷ []
serving_by next (Reserve seat key res) = Reserve seat key res ∷ Publish seat res ∷ Release seat res ∷ []
serving_by next step = []

-- the steps by which seat 0 is served a key and gives its lease back
abbrev pub serving : CoreStateValue → ℕ → List Step
serving core key = serving_by core.next_res (asked core 0 key)

-- the steps by which it is served some keys, one after the other
abbrev pub serving_all : CoreStateValue → List ℕ → List Step
serving_all core [] = []
serving_all core (key ∷ keys) = serving core key ++ serving_all (after_all core (serving core key)) keys

-- how many entries a step of asking leads to
abbrev pub makes : Step → ℕ
makes (Evict seat key res) = 1
makes (Reserve seat key res) = 1
makes _ = 0

-- how many entries a step of asking evicts
abbrev pub drops : Step → ℕ
drops (Evict seat key res) = 1
drops _ = 0

-- the one seat was served a key: it didn't have to wait, the keys are those by last use, and it is idle again
pub record IsServed (core : CoreStateValue) (key : ℕ) : Type 0 where
  pub told : is_wait (asked core 0 key) ≡ false
  pub made : makes (asked core 0 key) ≡ built_by (keys_of core) key
  pub dropped : drops (asked core 0 key) ≡ evicted_by core.capacity (keys_of core) key
  pub keys : keys_of (after_all core (serving core key)) ≡ used core.capacity (keys_of core) key
  pub idle : (after_all core (serving core key)).phases ≡ Idle ∷ []

-- the one seat was served some keys: by legal steps, of which none waits, and as the walk says
pub record IsWalked (core : CoreStateValue) (uses : List ℕ) (walk : Walk) : Type 0 where
  pub replay : Replays core (serving_all core uses) (after_all core (serving_all core uses))
  pub waits : count_by is_wait (serving_all core uses) ≡ 0
  pub keys : keys_of (after_all core (serving_all core uses)) ≡ walk.keys
  pub built : count_by is_reserve (serving_all core uses) ≡ walk.built
  pub evicted : count_by is_evict (serving_all core uses) ≡ walk.evicted
