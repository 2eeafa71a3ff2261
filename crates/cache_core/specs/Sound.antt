-- What every state of the machine keeps: it is sound (own rules).
use Rattle.std.specs.Prelude.{◌≡◌, ℕ, ◌≤◌, List, [], ◌∷◌, Bool, true, false, ◌==◌, Option, Some, None, is_some, length}
use Rattle.std.specs.Prelude.{map}
use Rattle.std.specs.List.{list_any}
use Rattle.cache_core.specs.CoreState.{CoreStateValue}
use Rattle.cache_core.specs.Lookup.{phase_of, entry_of, ready_of, is_using}
use Rattle.cache_core.specs.declared.step.Phase.{Phase}
use Rattle.cache_core.specs.declared.step.Phase.TheVariants.{Building, Holding, WaitKey, WaitRoom}

-- no number stands twice in a list
abbrev pub AreDistinct : List ℕ → Type 0
AreDistinct [] = Unit {0}
AreDistinct (n ∷ ns) = (list_any (λ m. m == n) ns ≡ false) × AreDistinct ns

-- the seats agree with the entries. `phase` is the phase of each seat, `ready` says of each residency
-- whether its entry is ready, `Full` that all places are used
pub record SeatsAgree (phase : ℕ → Phase) (ready : ℕ → Option Bool) (Full : Type 0) : Type 0 where
  -- an unready entry is built by a seat, and by one alone
  pub unready : (res : ℕ) → ready res ≡ Some false → (seat : ℕ) × (phase seat ≡ Building res)
  pub alone : (seat other res : ℕ) → phase seat ≡ Building res → phase other ≡ Building res → seat ≡ other
  -- what a seat builds is an unready entry, and what it holds a ready one
  pub builds : (seat res : ℕ) → phase seat ≡ Building res → ready res ≡ Some false
  pub holds : (seat res : ℕ) → phase seat ≡ Holding res → ready res ≡ Some true
  -- what a seat waits for is being built; a seat waits for room only while every place is used and
  -- every entry is built or held
  pub waits : (seat res : ℕ) → phase seat ≡ WaitKey res → (other : ℕ) × (phase other ≡ Building res)
  pub full : (seat : ℕ) → phase seat ≡ WaitRoom → Full
  pub used : (seat res : ℕ) → phase seat ≡ WaitRoom → is_some (ready res) ≡ true
      → (other : ℕ) × (is_using res (phase other) ≡ true)

-- a state is sound: no key has two entries, no residency either, there are at most as many entries as places, and
-- the seats agree with the entries
pub record IsSound (core : CoreStateValue) : Type 0 where
  pub keys : AreDistinct (map (λ e. e.key) core.entries)
  pub residencies : AreDistinct (map (λ e. e.res) core.entries)
  -- no entry has the next residency, or a later one
  pub below : (res : ℕ) → core.next_res ≤ res → entry_of core.entries res ≡ None
  pub few : length core.entries ≤ core.capacity
  pub seats : SeatsAgree (phase_of core.phases) (ready_of core.entries) (core.capacity ≤ length core.entries)
