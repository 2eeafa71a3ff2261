-- How a step changes what is owed.
use Rattle.std.proofs.Common.{◌≡◌, ◌⊎◌, inl, inr, ℕ, ◌+◌, ◌*◌, ◌<◌, ◌≤◌, true, false, List, [], ◌∷◌, map, set, length}
use Rattle.std.proofs.Common.{get_or, refl, sym, ap, ◌∙◌, arith}
use Rattle.std.specs.List.{list_any}
use Rattle.std.proofs.lemmas.Bool.{cases_Bool, and_parts, cond-true, cond-false}
use Rattle.std.proofs.lemmas.List.{length-map}
use Rattle.std.proofs.lemmas.List.Sums.{sum_by-set, sum_by-cons, sum_by-le}
use Rattle.cache_core.specs.CoreState.{CoreStateValue}
use Rattle.cache_core.specs.Lookup.{phase_of, is_free, is_holding}
use Rattle.cache_core.specs.Steps.{is_free_seat, is_legal, after, entries_after, phases_after, called_by_key}
use Rattle.cache_core.specs.Steps.{called_by_room, called_by_both, given_back}
use Rattle.cache_core.specs.declared.step.Phase.{Phase}
use Rattle.cache_core.specs.declared.step.Phase.TheVariants.{Idle, Building, Holding, WaitKey as WaitsKey}
use Rattle.cache_core.specs.declared.step.Phase.TheVariants.{WaitRoom as WaitsRoom, Called}
use Rattle.cache_core.specs.declared.step.Step.{Step}
use Rattle.cache_core.specs.declared.step.Step.TheVariants.{Hit, Evict, Reserve, Publish, Withdraw, Release, WaitKey}
use Rattle.cache_core.specs.declared.step.Step.TheVariants.{WaitRoom}
use Rattle.cache_core.proofs.Calls.{IsCall, key_call, room_call, both_call, key_call_cases, room_call_cases}
use Rattle.cache_core.proofs.Calls.{both_call_cases}
use Rattle.cache_core.proofs.Phases.{there, map_is_call}
use Rattle.cache_core.proofs.Keeps.{free_parts, building_is, holding_is}
use Rattle.link_cache.specs.Counting.{owed, all_owed}

free_owes : (x : Phase) → is_free x ≡ true → owed x ≡ 0
free_owes Idle h = refl
free_owes (Building r) h = let k : false ≡ true = h in cc
free_owes (Holding r) h = let k : false ≡ true = h in cc
free_owes (WaitsKey r) h = refl
free_owes WaitsRoom h = refl
free_owes Called h = refl

-- a call changes nothing that is owed
call_owes : (f : Phase → Phase) → IsCall f → ((x : Phase) → (f x ≡ x) ⊎ (f x ≡ Called)) → (x : Phase) →
    owed (f x) ≡ owed x
call_owes f call each x =
    elim (each x) [
      | inl e ↦ ap owed e
      | inr e ↦ elim (cases_Bool (is_free x)) [
        | inl b ↦ ap owed e ∙ sym (free_owes x b)
        | inr b ↦
            ap owed (call.busy x b)
      ]
    ]

map_owes : (f : Phase → Phase) → ((x : Phase) → owed (f x) ≡ owed x) → (xs : List Phase) →
    all_owed (map f xs) ≡ all_owed xs
map_owes f same [] = refl
map_owes f same (x ∷ xs) =
    sum_by-cons owed (f x) (map f xs) ∙ (ap (λ (n : ℕ). n + all_owed (map f xs)) (same x)
    ∙ (ap (λ (n : ℕ). owed x + n) (map_owes f same xs) ∙ sym (sum_by-cons owed x xs)))

set_owes : (phases : List Phase) (seat : ℕ) (p : Phase) → seat < length phases →
    all_owed (set phases seat p) + owed (phase_of phases seat) ≡ all_owed phases + owed p
set_owes phases seat p l = sum_by-set owed phases seat p Idle l

small : (x : Phase) → owed x ≤ 2
small Idle = omega arith
small (Building r) = omega arith
small (Holding r) = omega arith
small (WaitsKey r) = omega arith
small WaitsRoom = omega arith
small Called = omega arith

-- the steps that all seats owe are at most two for each
pub owed_few : (phases : List Phase) → all_owed phases ≤ length phases * 2
owed_few phases = sum_by-le owed 2 phases (λ k d l. small (get_or phases k d))

-- the steps that a step of asking adds to what is owed, with itself
abbrev pub asks_for : Step → ℕ
asks_for (Hit seat key res) = 2
asks_for (Evict seat key res) = 1
asks_for (Reserve seat key res) = 3
asks_for (WaitKey seat key res) = 1
asks_for (WaitRoom seat key) = 1
asks_for _ = 0

free_set : (core : CoreStateValue) (seat : ℕ) (p : Phase) → is_free_seat core.phases seat ≡ true →
    all_owed (set core.phases seat p) ≡ all_owed core.phases + owed p
free_set core seat p free =
    let parts = free_parts core.phases seat free in
    let zero_now = free_owes (phase_of core.phases seat) parts.1 in
    let sum = set_owes core.phases seat p parts.0 in
    omega (arith, zero_now, sum)

-- a legal step and all steps owed after it are at most those owed before and those that it asks for
pub owes : (core : CoreStateValue) (step : Step) → is_legal core step ≡ true →
    1 + all_owed (after core step).phases ≤ all_owed core.phases + asks_for step
unfolding is_legal entries_after phases_after
owes core (Hit seat key res) l =
    let k = free_set core seat (Holding res) (and_parts (is_free_seat core.phases seat) _ l).0 in omega (arith, k)
owes core (Evict seat key res) l = omega arith
owes core (Reserve seat key res) l =
    let k = free_set core seat (Building res) (and_parts (is_free_seat core.phases seat) _ l).0 in omega (arith, k)
owes core (Publish seat res) l =
    let builder = building_is res (phase_of core.phases seat) l in
    let calls = call_owes (called_by_key res) (key_call res) (key_call_cases res) in
    let short : seat < length (map (called_by_key res) core.phases) =
    (let k = there core.phases seat (Building res) builder (λ e. cc) in let v =
    length-map core.phases (called_by_key res) in omega (arith, k, v)) in
    let sum = set_owes (map (called_by_key res) core.phases) seat (Holding res) short in
    let same = map_owes (called_by_key res) calls core.phases in
    let was : owed (phase_of (map (called_by_key res) core.phases) seat) ≡ 2 =
    ap owed (map_is_call (called_by_key res) refl core.phases seat)
    ∙ (calls (phase_of core.phases seat) ∙ ap owed builder) in
    omega (arith, sum, same, was)
owes core (Withdraw seat res) l =
    let builder = building_is res (phase_of core.phases seat) l in
    let calls = call_owes (called_by_both res) (both_call res) (both_call_cases res) in
    let short : seat < length (map (called_by_both res) core.phases) =
    (let k = there core.phases seat (Building res) builder (λ e. cc) in let v =
    length-map core.phases (called_by_both res) in omega (arith, k, v)) in
    let sum = set_owes (map (called_by_both res) core.phases) seat Idle short in
    let same = map_owes (called_by_both res) calls core.phases in
    let was : owed (phase_of (map (called_by_both res) core.phases) seat) ≡ 2 =
    ap owed (map_is_call (called_by_both res) refl core.phases seat)
    ∙ (calls (phase_of core.phases seat) ∙ ap owed builder) in
    omega (arith, sum, same, was)
owes core (Release seat res) l =
    let holder = holding_is res (phase_of core.phases seat) l in
    let short : seat < length core.phases = there core.phases seat (Holding res) holder (λ e. cc) in
    let sum = set_owes core.phases seat Idle short in
    let was : owed (phase_of core.phases seat) ≡ 1 = ap owed holder in
    let last : List Phase = set core.phases seat Idle in
    let same : all_owed (given_back res last) ≡ all_owed last =
    elim (cases_Bool (list_any (is_holding res) last)) [
      | inl b ↦
          ap all_owed (cond-true (list_any (is_holding res) last) last (map called_by_room last) b)
      | inr b ↦
          ap all_owed (cond-false (list_any (is_holding res) last) last (map called_by_room last) b)
          ∙ map_owes called_by_room (call_owes called_by_room room_call room_call_cases) last
    ] in
    omega (arith, sum, same, was)
owes core (WaitKey seat key res) l =
    let k = free_set core seat (WaitsKey res) (and_parts (is_free_seat core.phases seat) _ l).0 in omega (arith, k)
owes core (WaitRoom seat key) l =
    let k = free_set core seat WaitsRoom (and_parts (is_free_seat core.phases seat) _ l).0 in omega (arith, k)
