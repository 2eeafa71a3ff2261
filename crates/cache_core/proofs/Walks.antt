-- One seat that is served key after key does the walk over the keys.
use Rattle.std.proofs.Common.{◌≡◌, ℕ, ◌+◌, ◌<◌, true, cond, List, [], ◌∷◌, ◌++◌, map, set, length, count_by, refl, sym}
use Rattle.std.proofs.Common.{ap, subst, ◌∙◌, arith}
use Rattle.std.proofs.lemmas.Bool.{eq-eqb}
use Rattle.std.proofs.lemmas.List.{length-map, length-set}
use Rattle.std.proofs.lemmas.List.Sums.{sum_by-append}
use Rattle.cache_core.specs.CoreState.{CoreStateValue}
use Rattle.cache_core.specs.Lookup.{phase_of, is_building, is_holding}
use Rattle.cache_core.specs.Steps.{is_free_seat, is_legal, after, phases_after, asked, called_by_key, IsAsking}
use Rattle.cache_core.specs.Sound.{IsSound}
use Rattle.cache_core.specs.Replay.{Replays, after_all, is_wait, is_reserve, is_evict}
use Rattle.cache_core.specs.Lru.{Walk, walk_on, used, walked, built_by, evicted_by, keys_of, serving, serving_by}
use Rattle.cache_core.specs.Lru.{serving_all, makes, drops, IsWalked}
use Rattle.cache_core.specs.declared.step.Phase.{Phase}
use Rattle.cache_core.specs.declared.step.Phase.TheVariants.{Idle, Building, Holding}
use Rattle.cache_core.specs.declared.step.Step.{Step}
use Rattle.cache_core.specs.declared.step.Step.TheVariants.{Hit, Evict, Reserve, Publish, Withdraw, Release, WaitKey}
use Rattle.cache_core.specs.declared.step.Step.TheVariants.{WaitRoom}
use Rattle.cache_core.proofs.Calls.{put_here}
use Rattle.cache_core.proofs.Phases.{set_is_put}
use Rattle.cache_core.proofs.Keeps.{keeps}
use Rattle.cache_core.proofs.Asks.{asked_legal, asked_asks, reserve_after_evict}
use Rattle.cache_core.proofs.OneSeat.{served}

-- steps of which the first ones replay, and the later ones from there
replays_both : (from middle to : CoreStateValue) (ss ts : List Step) → Replays from ss middle → Replays middle ts to →
    Replays from (ss ++ ts) to
replays_both from middle to [] ts h k = subst (λ (c : CoreStateValue). Replays c ts to) (sym h) k
replays_both from middle to (s ∷ ss) ts h k = (h.0, replays_both (after from s) middle to ss ts h.1 k)

after_both : (core : CoreStateValue) (ss ts : List Step) → after_all core (ss ++ ts) ≡ after_all (after_all core ss) ts
after_both core [] ts = refl
after_both core (s ∷ ss) ts = after_both (after core s) ss ts

sound_after : (from to : CoreStateValue) (steps : List Step) → IsSound from → Replays from steps to → IsSound to
sound_after from to [] sound run = subst IsSound run sound
sound_after from to (s ∷ ss) sound run = sound_after (after from s) to ss (keeps from s sound run.0) run.1

same_capacity : (core : CoreStateValue) (steps : List Step) → (after_all core steps).capacity ≡ core.capacity
same_capacity core [] = refl
same_capacity core (s ∷ ss) = same_capacity (after core s) ss

-- a seat that was given a phase has it
set_here : (phases : List Phase) (seat : ℕ) (p : Phase) → seat < length phases → phase_of (set phases seat p) seat ≡ p
set_here phases seat p l = set_is_put phases seat p l seat ∙ put_here seat p (phase_of phases)

-- what a seat holds it may release, and what it builds it may publish
release_held : (core : CoreStateValue) (seat res : ℕ) → phase_of core.phases seat ≡ Holding res →
    is_legal core (Release seat res) ≡ true
unfolding is_legal
release_held core seat res h = ap (is_holding res) h ∙ eq-eqb res res refl

publish_built : (core : CoreStateValue) (seat res : ℕ) → phase_of core.phases seat ≡ Building res →
    is_legal core (Publish seat res) ≡ true
unfolding is_legal
publish_built core seat res h = ap (is_building res) h ∙ eq-eqb res res refl

-- a new entry is reserved, published and released
abbrev making : ℕ → ℕ → ℕ → List Step
making seat key res = Reserve seat key res ∷ Publish seat res ∷ Release seat res ∷ []

making_replays : (core : CoreStateValue) (seat key res : ℕ) → seat < length core.phases →
    is_legal core (Reserve seat key res) ≡ true →
    Replays core (making seat key res) (after_all core (making seat key res))
unfolding phases_after
making_replays core seat key res l legal =
    let reserved : CoreStateValue = after core (Reserve seat key res) in
    let long : seat < length (map (called_by_key res) reserved.phases) =
    (let a = length-map reserved.phases (called_by_key res) in let b = length-set core.phases seat (Building res) in
    omega (arith, l, a, b)) in (
      legal,
      (
        publish_built reserved seat res (set_here core.phases seat (Building res) l),
        (
          release_held (after reserved (Publish seat res)) seat res
              (set_here (map (called_by_key res) reserved.phases) seat (Holding res) long),
          refl,
        ),
      ),
    )

serving_replays : (core : CoreStateValue) (key : ℕ) (step : Step) → IsSound core → core.phases ≡ Idle ∷ [] →
    IsAsking 0 key step → is_legal core step ≡ true →
    Replays core (serving_by core.next_res step) (after_all core (serving_by core.next_res step))
unfolding phases_after
serving_replays core key (Hit s k r) sound idle asks legal =
    let l : s < length core.phases = (let n : length core.phases ≡ 1 = ap length idle in let z : s ≡ 0 = asks.0 in
    omega (arith, n, z)) in
    (legal, (release_held (after core (Hit s k r)) s r (set_here core.phases s (Holding r) l), refl))
serving_replays core key (Evict s k r) sound idle asks legal =
    let l : s < length core.phases = (let n : length core.phases ≡ 1 = ap length idle in let z : s ≡ 0 = asks.0 in
    omega (arith, n, z)) in
    (legal, making_replays (after core (Evict s k r)) s k core.next_res l (reserve_after_evict core s k r sound legal))
serving_replays core key (Reserve s k r) sound idle asks legal =
    let l : s < length core.phases = (let n : length core.phases ≡ 1 = ap length idle in let z : s ≡ 0 = asks.0 in
    omega (arith, n, z)) in
    making_replays core s k r l legal
serving_replays core key (Publish s r) sound idle asks legal = absurd asks
serving_replays core key (Withdraw s r) sound idle asks legal = absurd asks
serving_replays core key (Release s r) sound idle asks legal = absurd asks
serving_replays core key (WaitKey s k r) sound idle asks legal = refl
serving_replays core key (WaitRoom s k) sound idle asks legal = refl

-- what the steps that serve a key count
record Counted (next : ℕ) (step : Step) : Type 0 where
  waits : count_by is_wait (serving_by next step) ≡ 0
  reserves : count_by is_reserve (serving_by next step) ≡ makes step
  evicts : count_by is_evict (serving_by next step) ≡ drops step

counted : (next key : ℕ) (step : Step) → IsAsking 0 key step → Counted next step
counted next key (Hit s k r) a = record { waits = refl; reserves = refl; evicts = refl }
counted next key (Evict s k r) a = record { waits = refl; reserves = refl; evicts = refl }
counted next key (Reserve s k r) a = record { waits = refl; reserves = refl; evicts = refl }
counted next key (Publish s r) a = absurd a
counted next key (Withdraw s r) a = absurd a
counted next key (Release s r) a = absurd a
counted next key (WaitKey s k r) a = record { waits = refl; reserves = refl; evicts = refl }
counted next key (WaitRoom s k) a = record { waits = refl; reserves = refl; evicts = refl }

-- the walk goes on from any walk with the state's keys
record GoesOn (core : CoreStateValue) (keys : List ℕ) (from to : Walk) : Type 0 where
  replay : Replays core (serving_all core keys) (after_all core (serving_all core keys))
  waits : count_by is_wait (serving_all core keys) ≡ 0
  names : keys_of (after_all core (serving_all core keys)) ≡ to.keys
  made : from.built + count_by is_reserve (serving_all core keys) ≡ to.built
  gone : from.evicted + count_by is_evict (serving_all core keys) ≡ to.evicted

goes_on : (capacity : ℕ) (core : CoreStateValue) (keys : List ℕ) (from : Walk) → core.capacity ≡ capacity →
    IsSound core → core.phases ≡ Idle ∷ [] → 0 < core.capacity → keys_of core ≡ from.keys →
    GoesOn core keys from (walked capacity from keys)
goes_on capacity core [] from same sound idle room names =
    record { replay = refl; waits = refl; names = names; made = omega arith; gone = omega arith }
goes_on capacity core (key ∷ keys) from same sound idle room names =
    let step : Step = asked core 0 key in
    let steps : List Step = serving core key in
    let then : CoreStateValue = after_all core steps in
    let rest : List Step = serving_all then keys in
    let one = served core key sound idle room in
    let count = counted core.next_res key step (asked_asks core 0 key) in
    let legal : is_legal core step ≡ true = asked_legal core 0 key sound
    (ap (λ (ps : List Phase). is_free_seat ps 0) idle) in
    let run : Replays core steps then = serving_replays core key step sound idle (asked_asks core 0 key) legal in
    let cap : then.capacity ≡ capacity = same_capacity core steps ∙ same in
    let more : 0 < then.capacity = (let k = same_capacity core steps in omega (arith, room, k)) in
    let now : keys_of then ≡ (walk_on capacity from key).keys = one.keys
    ∙ (ap (λ (n : ℕ). used n (keys_of core) key) same ∙ ap (λ (ks : List ℕ). used capacity ks key) names) in
    let on = goes_on capacity then keys (walk_on capacity from key) cap
    (sound_after core then steps sound run) one.idle more now in
    let end : after_all core (steps ++ rest) ≡ after_all then rest = after_both core steps rest in
    let made : makes step ≡ built_by from.keys key = one.made ∙ ap (λ (ks : List ℕ). built_by ks key) names in
    let gone : drops step ≡ evicted_by capacity from.keys key = one.dropped
    ∙ (ap (λ (n : ℕ). evicted_by n (keys_of core) key) same
    ∙ ap (λ (ks : List ℕ). evicted_by capacity ks key) names) in
    let waits : count_by is_wait (steps ++ rest) ≡ count_by is_wait steps + count_by is_wait rest =
    sum_by-append (λ x. cond (is_wait x) 1 0) steps rest in
    let reserves : count_by is_reserve (steps ++ rest) ≡ count_by is_reserve steps + count_by is_reserve rest =
    sum_by-append (λ x. cond (is_reserve x) 1 0) steps rest in
    let evicts : count_by is_evict (steps ++ rest) ≡ count_by is_evict steps + count_by is_evict rest =
    sum_by-append (λ x. cond (is_evict x) 1 0) steps rest in
    record {
      replay = subst (λ (c : CoreStateValue). Replays core (steps ++ rest) c) (sym end)
          (replays_both core then (after_all then rest) steps rest run on.replay);
      waits = omega (arith, waits, count.waits, on.waits);
      names = ap keys_of end ∙ on.names;
      made = omega (arith, reserves, count.reserves, made, on.made);
      gone = omega (arith, evicts, count.evicts, gone, on.gone);
    }

abbrev start : CoreStateValue → Walk
start core = record { keys = keys_of core; built = 0; evicted = 0 }

-- in a sound state with places, the one seat is served key after key as the walk says, where it is idle
pub walks : (core : CoreStateValue) (keys : List ℕ) → IsSound core → core.phases ≡ Idle ∷ [] → 0 < core.capacity →
    IsWalked core keys (walked core.capacity (record { keys = keys_of core; built = 0; evicted = 0 }) keys)
walks core keys sound idle room =
    let all = goes_on core.capacity core keys (start core) refl sound idle room refl in
    let to : Walk = walked core.capacity (start core) keys in
    let made : 0 + count_by is_reserve (serving_all core keys) ≡ to.built = all.made in
    let gone : 0 + count_by is_evict (serving_all core keys) ≡ to.evicted = all.gone in
    record {
      replay = all.replay;
      waits = all.waits;
      keys = all.names;
      built = omega (arith, made);
      evicted =
          omega (arith, gone);
    }
