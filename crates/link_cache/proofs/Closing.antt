-- What a cache keeps when a call is done: the room in its journal, and all the rest.
use Rattle.std.proofs.Common.{◌≡◌, ℕ, zero, suc, ◌+◌, ◌^◌, ◌<◌, ◌≤◌, true, List, [], ◌∷◌, length, Some, is_some, refl}
use Rattle.std.proofs.Common.{sym, ap, ◌∙◌, arith}
use Rattle.std.specs.List.{slice_get}
use Rattle.cache_core.specs.CoreState.{CoreStateValue}
use Rattle.cache_core.specs.Lookup.{entry_of, phase_of, is_building, is_holding}
use Rattle.std.proofs.lemmas.Bool.{eq-eqb}
use Rattle.cache_core.specs.declared.step.Phase.TheVariants.{Building, Holding}
use Rattle.cache_core.specs.Sound.{IsSound}
use Rattle.cache_core.proofs.Keeps.{some_entry, building_is}
use Rattle.cache_core.specs.Steps.{is_legal, after}
use Rattle.cache_core.specs.declared.step.Entry.{Entry}
use Rattle.cache_core.specs.declared.step.Step.{Step}
use Rattle.cache_core.specs.declared.step.Step.TheVariants.{Hit, Evict, Reserve, Publish, Withdraw, Release, WaitKey}
use Rattle.cache_core.specs.declared.step.Step.TheVariants.{WaitRoom}
use Rattle.cache_core.proofs.Asks.{hit_entry}
use Rattle.link_cache.specs.Counting.{all_owed}
use Rattle.link_cache.specs.Kept.{SlotValue, mark_of, IsRun, IsKept}
use Rattle.link_cache.specs.declared.counts.Past.{Past}
use Rattle.link_cache.proofs.Owed.{asks_for, owes, owed_few}

-- what every cache keeps holds of equal parts too
pub kept_moved : (named named' : List (List ℕ)) (places places' : List SlotValue)
    (opening opening' core core' : CoreStateValue) (journal journal' : List Step) (past : Past) → named' ≡ named →
    places' ≡ places → opening' ≡ opening → core' ≡ core → journal' ≡ journal →
    IsKept named places opening core journal past → IsKept named' places' opening' core' journal' past
kept_moved named named' places places' opening opening' core core' journal journal' past e f g h i k =
    rw (e, f, g, h, i) k

-- in a run all seats owe at most 32 steps
pub owed_bound : (opening core : CoreStateValue) (journal : List Step) (past : Past) → IsRun opening core journal past →
    all_owed core.phases ≤ 32
owed_bound opening core journal past run =
    let few = owed_few core.phases in
    omega (arith, few, run.few)

-- a look that begins with few steps has room for all that it may ask
pub budget : (opening core : CoreStateValue) (journal : List Step) (past : Past) (n : ℕ) →
    IsRun opening core journal past → past.steps + length journal < 2 ^ 61 → n ≤ 4 →
    past.steps + length journal + all_owed core.phases + n ≤ 2 ^ 62
budget opening core journal past n run few small =
    let owed = owed_bound opening core journal past run in
    omega (arith, few, small, owed)

-- a step asks for at most three steps
pub asks_few : (step : Step) → asks_for step ≤ 3
asks_few (Hit seat key res) = omega arith
asks_few (Evict seat key res) = omega arith
asks_few (Reserve seat key res) = omega arith
asks_few (Publish seat res) = omega arith
asks_few (Withdraw seat res) = omega arith
asks_few (Release seat res) = omega arith
asks_few (WaitKey seat key res) = omega arith
asks_few (WaitRoom seat key) = omega arith

-- the mark of a value that is there is that of its entry's key
get_is_some : (xs : List (List ℕ)) (i : ℕ) → i < length xs → is_some (slice_get xs i) ≡ true
get_is_some [] i l = absurd (omega (arith, l))
get_is_some (x ∷ xs) zero l = refl
get_is_some (x ∷ xs) (suc i) l = get_is_some xs i (omega (arith, l))

-- where a hit is legal, the slot of its entry has the mark of its key, which is named
pub hit_mark : (named : List (List ℕ)) (places : List SlotValue) (opening core : CoreStateValue) (journal : List Step)
    (past : Past) (seat key res : ℕ) → IsKept named places opening core journal past →
    is_legal core (Hit seat key res) ≡ true → (mark_of places res ≡ slice_get named key) ×
    (is_some (slice_get named key) ≡ true)
hit_mark named places opening core journal past seat key res k legal =
    let e = hit_entry core seat key res legal in (
      k.values.kept res e.0 e.1 e.3 ∙ ap (slice_get named) e.2,
      ap (λ (n : ℕ). is_some (slice_get named n)) (sym e.2)
          ∙ get_is_some named e.0.key (k.values.numbered res e.0 e.1),
    )

-- a step that a seat owes finds room
pub owes_one : (core : CoreStateValue) (step : Step) → is_legal core step ≡ true → asks_for step ≡ 0 →
    1 + all_owed (after core step).phases ≤ all_owed core.phases
owes_one core step legal h = let more = owes core step legal in omega (arith, more, h)

-- the entry that a publication makes ready
pub published : (core : CoreStateValue) (seat res : ℕ) → IsSound core → is_legal core (Publish seat res) ≡ true →
    (is_building res (phase_of core.phases seat) ≡ true) × ((e : Entry) × (entry_of core.entries res ≡ Some e))
unfolding is_legal
published core seat res s legal = (
  legal,
  some_entry (entry_of core.entries res)
      (ap is_some (s.seats.builds seat res (building_is res (phase_of core.phases seat) legal))),
)

-- who builds an entry may withdraw it
pub builder_may_withdraw : (core : CoreStateValue) (seat res : ℕ) → Building res ≡ phase_of core.phases seat →
    is_legal core (Withdraw seat res) ≡ true
unfolding is_legal
builder_may_withdraw core seat res h = ap (is_building res) (sym h) ∙ eq-eqb res res refl

-- who holds an entry may release it
pub holder_may_release : (core : CoreStateValue) (seat res : ℕ) → Holding res ≡ phase_of core.phases seat →
    is_legal core (Release seat res) ≡ true
unfolding is_legal
holder_may_release core seat res h = ap (is_holding res) (sym h) ∙ eq-eqb res res refl
