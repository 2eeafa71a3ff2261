-- What every cache keeps, and the slots in which it has its values.
use Rattle.std.specs.Prelude.{◌≡◌, ℕ, ◌+◌, ◌^◌, ◌<◌, ◌≤◌, ◌==◌, List, [], ◌∷◌, ◌++◌, Bool, true, Option, Some, None}
use Rattle.std.specs.Prelude.{find, filter, not, length, count_by, slice_get, slice_set, is_some}
use Rattle.std.specs.List.{position_or_len}
use Rattle.cache_core.specs.CoreState.{CoreStateValue}
use Rattle.cache_core.specs.Lookup.{entry_of}
use Rattle.cache_core.specs.Sound.{IsSound}
use Rattle.cache_core.specs.Replay.{Replays, is_reserve, is_evict, is_withdraw}
use Rattle.cache_core.specs.declared.step.Entry.{Entry}
use Rattle.cache_core.specs.declared.step.Step.{Step}
use Rattle.cache_core.specs.declared.step.Step.TheVariants.{Hit, Release, WaitKey, WaitRoom}
use Rattle.link_cache.specs.Counting.{all_owed}
use Rattle.link_cache.specs.declared.counts.Past.{Past}

-- a slot for the value of an entry: its residency, and the mark of its value once that is there
pub record SlotValue : Type 0 where
  pub res : ℕ
  pub mark : Option (List ℕ)

-- whether a slot is the one of a residency
abbrev pub is_slot_of : ℕ → SlotValue → Bool
is_slot_of res slot = slot.res == res

-- the slot of a residency, if there is one
abbrev pub slot_of : List SlotValue → ℕ → Option SlotValue
slot_of slots res = find (is_slot_of res) slots

-- the mark in a slot, if there is one
abbrev pub mark_in : Option SlotValue → Option (List ℕ)
mark_in None = None
mark_in (Some slot) = slot.mark

-- the mark of the value of a residency, if it is there
abbrev pub mark_of : List SlotValue → ℕ → Option (List ℕ)
mark_of slots res = mark_in (slot_of slots res)

-- the slots but that of a residency
abbrev pub without_slot : ℕ → List SlotValue → List SlotValue
without_slot res slots = filter (λ s. not (is_slot_of res s)) slots

-- the slots with a value in that of a residency
abbrev pub filled : ℕ → List ℕ → List SlotValue → List SlotValue
filled res mark slots =
    slice_set slots (position_or_len (is_slot_of res) slots) (record { res = res; mark = Some mark })

-- the journal is a run of the machine
pub record IsRun (opening core : CoreStateValue) (journal : List Step) (past : Past) : Type 0 where
  pub replay : Replays opening journal core
  pub sound : IsSound core
  -- opening and state are of one size
  pub capacity : opening.capacity ≡ core.capacity
  pub seats : length opening.phases ≡ length core.phases
  pub few : length core.phases ≤ 16
  -- what was built and not withdrawn was evicted or is there
  pub balance : past.built + count_by is_reserve journal
      ≡ past.evicted + count_by is_evict journal + count_by is_withdraw journal + length core.entries
  -- no number grows past the number of steps, and no step that is owed can pass its bound
  pub next : core.next_res ≤ past.steps + length journal
  pub leases : past.leases ≤ past.steps
  pub built : past.built ≤ past.steps
  pub evicted : past.evicted ≤ past.steps
  pub short : past.steps + length journal + all_owed core.phases ≤ 2 ^ 62

-- the values are those of the entries
pub record AreValues (named : List (List ℕ)) (slots : List SlotValue) (entries : List Entry) : Type 0 where
  -- an entry's key is named
  pub numbered : (res : ℕ) (entry : Entry) → entry_of entries res ≡ Some entry → entry.key < length named
  -- there is a slot for each entry, and no other
  pub placed : (res : ℕ) → is_some (slot_of slots res) ≡ is_some (entry_of entries res)
  -- a ready entry keeps a value of the key of its number
  pub kept : (res : ℕ) (entry : Entry) → entry_of entries res ≡ Some entry → entry.ready ≡ true
      → mark_of slots res ≡ slice_get named entry.key

-- no key is named twice
abbrev pub AreUnlike : List (List ℕ) → Type 0
AreUnlike named = (i j : ℕ) (mark : List ℕ) → slice_get named i ≡ Some mark → slice_get named j ≡ Some mark → i ≡ j

-- the keys once one more was named, or none
abbrev pub named_with : List (List ℕ) → Option (List ℕ) → List (List ℕ)
named_with named None = named
named_with named (Some mark) = named ++ mark ∷ []

-- what every cache keeps
pub record IsKept (named : List (List ℕ)) (slots : List SlotValue) (opening core : CoreStateValue)
    (journal : List Step) (past : Past) : Type 0 where
  pub run : IsRun opening core journal past
  pub values : AreValues named slots core.entries
  pub unlike : AreUnlike named
  -- an eviction comes only once more keys are named than the cache has places
  pub many : 0 < past.evicted + count_by is_evict journal → core.capacity < length named

-- what a name asks: it isn't named yet
abbrev pub IsNew : List (List ℕ) → Option (List ℕ) → Type 0
IsNew named name = (m : List ℕ) → name ≡ Some m → (i : ℕ) → slice_get named i ≡ Some m → ⊥

-- a step that leaves the entries as they are, or reorders them
abbrev pub IsPlain : Step → Type 0
IsPlain (Hit seat key res) = Unit {0}
IsPlain (WaitKey seat key res) = Unit {0}
IsPlain (WaitRoom seat key) = Unit {0}
IsPlain (Release seat res) = Unit {0}
IsPlain _ = ⊥
