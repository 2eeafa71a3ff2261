-- What every cache keeps, after each of its calls.
use Rattle.std.proofs.Common.{◌≡◌, ◌⊎◌, inl, inr, ℕ, zero, suc, ◌+◌, ◌-◌, ◌^◌, ◌<◌, ◌≤◌, Bool, true, false, cond, List}
use Rattle.std.proofs.Common.{[], ◌∷◌, ◌++◌, length, Option, Some, None, refl, sym, ap, ◌∙◌, arith, count_by}
use Rattle.std.specs.List.{slice_get}
use Rattle.std.proofs.lemmas.List.{length_push}
use Rattle.std.proofs.lemmas.List.Sums.{sum_by_push}
use Rattle.cache_core.specs.CoreState.{CoreStateValue}
use Rattle.cache_core.specs.Lookup.{entry_of}
use Rattle.cache_core.specs.Steps.{is_legal, after, entries_after, is_quiet, settled}
use Rattle.cache_core.specs.declared.step.Entry.{Entry}
use Rattle.cache_core.specs.declared.step.Step.{Step}
use Rattle.cache_core.specs.declared.step.Step.TheVariants.{Hit, Evict, Reserve, Publish, Withdraw, Release, WaitKey}
use Rattle.cache_core.specs.declared.step.Step.TheVariants.{WaitRoom}
use Rattle.cache_core.proofs.Entries.{entry_used}
use Rattle.cache_core.proofs.Asks.{evict_when, reserve_when}
use Rattle.cache_core.specs.Replay.{is_lease, is_reserve, is_evict, is_withdraw}
use Rattle.link_cache.specs.Counting.{all_owed}
use Rattle.link_cache.specs.Kept.{SlotValue, without_slot, filled, AreValues, AreUnlike, IsKept, named_with, IsNew}
use Rattle.link_cache.specs.Kept.{IsPlain}
use Rattle.link_cache.specs.declared.counts.Past.{Past}
use Rattle.link_cache.proofs.Owed.{asks_for}
use Rattle.link_cache.proofs.Runs.{runs_on, settles_run}
use Rattle.link_cache.proofs.Values.{values_same, values_without, values_push, values_named, values_built, more_names}

-- no key is named twice where a new one was added
push_cases : (xs : List (List ℕ)) (m x : List ℕ) (i : ℕ) → slice_get (xs ++ m ∷ []) i ≡ Some x →
    (slice_get xs i ≡ Some x) ⊎ ((i ≡ length xs) × (m ≡ x))
push_cases [] m x zero h = inr (refl, (let k : Some m ≡ Some x = h in cc))
push_cases [] m x (suc i) h = let k : None ≡ Some x = h in cc
push_cases (y ∷ ys) m x zero h = inl h
push_cases (y ∷ ys) m x (suc i) h = elim (push_cases ys m x i h) [
  | inl e ↦ inl e
  | inr e ↦
      inr (omega (arith, e.0), e.1)
]

pub unlike_with : (named : List (List ℕ)) (name : Option (List ℕ)) → AreUnlike named →
    ((m : List ℕ) → name ≡ Some m → (i : ℕ) → slice_get named i ≡ Some m → ⊥) → AreUnlike (named_with named name)
unlike_with named None unlike new = unlike
unlike_with named (Some m) unlike new = λ i j x h k.
    elim (push_cases named m x i h) [
      | inl a ↦ elim (push_cases named m x j k) [
        | inl b ↦ unlike i j x a b
        | inr b ↦
            absurd (new m refl i (a ∙ ap Some (sym b.1)))
      ]
      | inr a ↦ elim (push_cases named m x j k) [
        | inl b ↦ absurd (new m refl j (b ∙ ap Some (sym a.1)))
        | inr b ↦ a.0
            ∙ sym b.0
      ]
    ]

pub values_with : (named : List (List ℕ)) (name : Option (List ℕ)) (places : List SlotValue) (es : List Entry) →
    AreValues named places es → AreValues (named_with named name) places es
values_with named None places es v = v
values_with named (Some m) places es v = values_named named m places es v

pub longer : (named : List (List ℕ)) (name : Option (List ℕ)) → length named ≤ length (named_with named name)
longer named None = omega arith
longer named (Some m) = let k = length_push named m in omega (arith, k)

abbrev one_if : Bool → ℕ
one_if b = cond b 1 0

-- a step that is no eviction adds none
none_more : (step : Step) (journal : List Step) → is_evict step ≡ false →
    count_by is_evict (journal ++ step ∷ []) ≡ count_by is_evict journal
none_more step journal h =
    let k = sum_by_push (λ x. cond (is_evict x) 1 0) journal step in
    let z : one_if (is_evict step) ≡ 0 = ap one_if h in
    omega (arith, k, z)

plain_entries : (es : List Entry) (step : Step) → IsPlain step → (q : ℕ) →
    entry_of (entries_after es step) q ≡ entry_of es q
unfolding entries_after
plain_entries es (Hit seat key res) p q = refl
plain_entries es (Evict seat key res) p q = absurd p
plain_entries es (Reserve seat key res) p q = absurd p
plain_entries es (Publish seat res) p q = absurd p
plain_entries es (Withdraw seat res) p q = absurd p
plain_entries es (Release seat res) p q = entry_used res q es
plain_entries es (WaitKey seat key res) p q = refl
plain_entries es (WaitRoom seat key) p q = refl

plain_no_evict : (step : Step) → IsPlain step → is_evict step ≡ false
plain_no_evict (Hit seat key res) p = refl
plain_no_evict (Evict seat key res) p = absurd p
plain_no_evict (Reserve seat key res) p = refl
plain_no_evict (Publish seat res) p = refl
plain_no_evict (Withdraw seat res) p = refl
plain_no_evict (Release seat res) p = refl
plain_no_evict (WaitKey seat key res) p = refl
plain_no_evict (WaitRoom seat key) p = refl

many_stay : (named : List (List ℕ)) (name : Option (List ℕ)) (capacity : ℕ) (step : Step) (journal : List Step)
    (past : Past) → is_evict step ≡ false → (0 < past.evicted + count_by is_evict journal → capacity < length named) →
    0 < past.evicted + count_by is_evict (journal ++ step ∷ []) → capacity < length (named_with named name)
many_stay named name capacity step journal past h many k =
    let same = none_more step journal h in
    let long = longer named name in
    let was : 0 < past.evicted + count_by is_evict journal = omega (arith, k, same) in
    let now = many was in
    omega (arith, now, long)

-- a legal step that at most reorders the entries keeps what every cache keeps, where there is room
pub keeps_plain : (named : List (List ℕ)) (name : Option (List ℕ)) (places : List SlotValue)
    (opening core : CoreStateValue) (journal : List Step) (past : Past) (step : Step) →
    IsKept named places opening core journal past → IsNew named name → IsPlain step → is_legal core step ≡ true →
    past.steps + length journal + all_owed core.phases + asks_for step ≤ 2 ^ 62 →
    IsKept (named_with named name) places opening (after core step) (journal ++ step ∷ []) past
keeps_plain named name places opening core journal past step k new plain legal short =
    record {
      run = runs_on opening core journal past step k.run legal short;
      values = values_with named name places (entries_after core.entries step)
          (values_same named places core.entries (entries_after core.entries step)
          (plain_entries core.entries step plain) k.values);
      unlike = unlike_with named name k.unlike new;
      many = many_stay named name core.capacity step journal past (plain_no_evict step plain) k.many;
    }

-- a legal reservation with an empty slot more keeps what every cache keeps, where there is room
pub keeps_reserve : (named : List (List ℕ)) (name : Option (List ℕ)) (places : List SlotValue)
    (opening core : CoreStateValue) (journal : List Step) (past : Past) (seat key res : ℕ) →
    IsKept named places opening core journal past → IsNew named name → key < length (named_with named name) →
    is_legal core (Reserve seat key res) ≡ true → past.steps + length journal + all_owed core.phases + 3 ≤ 2 ^ 62 →
    IsKept (named_with named name) (places ++ record { res = res; mark = None } ∷ []) opening
    (after core (Reserve seat key res)) (journal ++ Reserve seat key res ∷ []) past
unfolding entries_after
keeps_reserve named name places opening core journal past seat key res k new within legal short =
    record {
      run = runs_on opening core journal past (Reserve seat key res) k.run legal short;
      values = values_push (named_with named name) places core.entries key res within
          (reserve_when core seat key res k.run.sound legal).1 (values_with named name places core.entries k.values);
      unlike = unlike_with named name k.unlike new;
      many = many_stay named name core.capacity (Reserve seat key res) journal past refl k.many;
    }

-- a legal eviction with its slot taken away keeps what every cache keeps, where there is room
pub keeps_evict : (named : List (List ℕ)) (name : Option (List ℕ)) (places : List SlotValue)
    (opening core : CoreStateValue) (journal : List Step) (past : Past) (seat key res : ℕ) →
    IsKept named places opening core journal past → IsNew named name → key < length (named_with named name) →
    is_legal core (Evict seat key res) ≡ true → past.steps + length journal + all_owed core.phases + 1 ≤ 2 ^ 62 →
    IsKept (named_with named name) (without_slot res places) opening (after core (Evict seat key res))
    (journal ++ Evict seat key res ∷ []) past
unfolding entries_after
keeps_evict named name places opening core journal past seat key res k new within legal short =
    let values : AreValues (named_with named name) places core.entries =
    values_with named name places core.entries k.values in
    let when = evict_when core seat key res legal in
    let more = more_names (named_with named name) places core.entries key k.run.sound.keys k.run.sound.residencies
    when.1 within values in
    record {
      run = runs_on opening core journal past (Evict seat key res) k.run legal short;
      values = values_without (named_with named name) places core.entries res values;
      unlike = unlike_with named name k.unlike new;
      many = λ h. omega (arith, more, when.0);
    }

-- a legal withdrawal with its slot taken away keeps what every cache keeps
pub keeps_withdraw : (named : List (List ℕ)) (places : List SlotValue) (opening core : CoreStateValue)
    (journal : List Step) (past : Past) (seat res : ℕ) → IsKept named places opening core journal past →
    is_legal core (Withdraw seat res) ≡ true →
    IsKept named (without_slot res places) opening (after core (Withdraw seat res))
    (journal ++ Withdraw seat res ∷ []) past
unfolding entries_after
keeps_withdraw named places opening core journal past seat res k legal =
    record {
      run = runs_on opening core journal past (Withdraw seat res) k.run legal (omega (arith, k.run.short));
      values = values_without named places core.entries res k.values;
      unlike = k.unlike;
      many = many_stay named None core.capacity (Withdraw seat res) journal past refl k.many;
    }

-- a legal publication with its key's mark in its slot keeps what every cache keeps
pub keeps_publish : (named : List (List ℕ)) (places : List SlotValue) (opening core : CoreStateValue)
    (journal : List Step) (past : Past) (seat res : ℕ) (m : List ℕ) (e : Entry) →
    IsKept named places opening core journal past → is_legal core (Publish seat res) ≡ true →
    entry_of core.entries res ≡ Some e → slice_get named e.key ≡ Some m →
    IsKept named (filled res m places) opening (after core (Publish seat res)) (journal ++ Publish seat res ∷ []) past
unfolding entries_after
keeps_publish named places opening core journal past seat res m e k legal here name =
    record {
      run = runs_on opening core journal past (Publish seat res) k.run legal (omega (arith, k.run.short));
      values = values_built named places core.entries res m e here name k.values;
      unlike = k.unlike;
      many = many_stay named None core.capacity (Publish seat res) journal past refl k.many;
    }

-- a quiet cache with its journal counted and emptied, and every seat idle, keeps what every cache keeps
pub keeps_settled : (named : List (List ℕ)) (places : List SlotValue) (opening core : CoreStateValue)
    (journal : List Step) (past : Past) → IsKept named places opening core journal past → is_quiet core ≡ true →
    IsKept named places (settled core) (settled core) []
    (record {
      steps = past.steps + length journal;
      leases = past.leases + count_by is_lease journal;
      built =
          past.built + count_by is_reserve journal - count_by is_withdraw journal;
      evicted =
          past.evicted + count_by is_evict journal;
    })
keeps_settled named places opening core journal past k quiet =
    record {
      run = settles_run opening core journal past k.run quiet;
      values = k.values;
      unlike = k.unlike;
      many = λ h. k.many (omega (arith, h));
    }
