-- Lists of steps: where they lead, whether each is legal where it stands, and what they count.
use Rattle.std.specs.Prelude.{◌≡◌, ◌⊎◌, ℕ, List, [], ◌∷◌, Bool, true, false, ◌==◌, None, is_some, count_by}
use Rattle.cache_core.specs.CoreState.{CoreStateValue}
use Rattle.cache_core.specs.Lookup.{entry_of}
use Rattle.cache_core.specs.Steps.{is_legal, after}
use Rattle.cache_core.specs.declared.step.Entry.{Entry}
use Rattle.cache_core.specs.declared.step.Step.{Step}
use Rattle.cache_core.specs.declared.step.Step.TheVariants.{Hit, Evict, Reserve, Publish, Withdraw, Release, WaitKey}
use Rattle.cache_core.specs.declared.step.Step.TheVariants.{WaitRoom}

-- the state after some steps
abbrev pub after_all : CoreStateValue → List Step → CoreStateValue
after_all core [] = core
after_all core (step ∷ steps) = after_all (after core step) steps

-- the steps lead from one state to another, each legal where it stands
abbrev pub Replays : CoreStateValue → List Step → CoreStateValue → Type 0
Replays from [] to = from ≡ to
Replays from (step ∷ steps) to = (is_legal from step ≡ true) × Replays (after from step) steps to

-- whether a step gives a lease: of a value that is there, or of one that will be made
abbrev pub is_lease : Step → Bool
is_lease (Hit seat key res) = true
is_lease (Reserve seat key res) = true
is_lease _ = false

-- whether a step reserves a place for an entry
abbrev pub is_reserve : Step → Bool
is_reserve (Reserve seat key res) = true
is_reserve _ = false

-- whether a step evicts an entry
abbrev pub is_evict : Step → Bool
is_evict (Evict seat key res) = true
is_evict _ = false

-- whether a step withdraws an entry whose value wasn't made
abbrev pub is_withdraw : Step → Bool
is_withdraw (Withdraw seat res) = true
is_withdraw _ = false

-- whether a step lets its seat wait
abbrev pub is_wait : Step → Bool
is_wait (WaitKey seat key res) = true
is_wait (WaitRoom seat key) = true
is_wait _ = false

-- whether a step names a residency
abbrev pub is_naming : ℕ → Step → Bool
is_naming res (Hit seat key r) = r == res
is_naming res (Evict seat key r) = r == res
is_naming res (Reserve seat key r) = r == res
is_naming res (Publish seat r) = r == res
is_naming res (Withdraw seat r) = r == res
is_naming res (Release seat r) = r == res
is_naming res (WaitKey seat key r) = r == res
is_naming res (WaitRoom seat key) = false

-- whether a step reserves the entry of a residency
abbrev pub is_reserving : ℕ → Step → Bool
is_reserving res (Reserve seat key r) = r == res
is_reserving res _ = false

-- whether a step publishes the entry of a residency
abbrev pub is_publishing : ℕ → Step → Bool
is_publishing res (Publish seat r) = r == res
is_publishing res _ = false

-- a residency is that of an entry that is there before the steps, and none of them reserves it; or it is
-- of no entry then, and one of them reserves it, once
abbrev pub IsOldOrReserved : List Entry → List Step → ℕ → Type 0
IsOldOrReserved entries steps res =
    ((is_some (entry_of entries res) ≡ true) × (count_by (is_reserving res) steps ≡ 0))
    ⊎ ((entry_of entries res ≡ None) × (count_by (is_reserving res) steps ≡ 1))
