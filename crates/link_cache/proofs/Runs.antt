-- The journal stays a run of the machine.
use Rattle.std.proofs.Common.{◌≡◌, ℕ, ◌+◌, ◌-◌, ◌^◌, ◌<◌, ◌≤◌, true, cond, List, [], ◌∷◌, ◌++◌, map, set, length, refl}
use Rattle.std.proofs.Common.{sym, ap, subst, ◌∙◌, arith, count_by}
use Rattle.std.proofs.lemmas.List.{length_push, length-map, length-set}
use Rattle.std.proofs.lemmas.List.Sums.{sum_by_push, sum_by-cons, count_by-le-length}
use Rattle.cache_core.specs.CoreState.{CoreStateValue}
use Rattle.cache_core.specs.Steps.{is_legal, after, phases_after, next_after, grows_by, settled, is_quiet, idle}
use Rattle.cache_core.specs.Steps.{called_by_key, called_by_both, called_by_room}
use Rattle.cache_core.specs.Lookup.{is_holding}
use Rattle.std.specs.List.{list_any}
use Rattle.std.proofs.lemmas.Bool.{cases_Bool, cond-true, cond-false}
use Rattle.std.proofs.Common.{inl, inr}
use Rattle.cache_core.specs.Replay.{Replays, is_lease, is_reserve, is_evict, is_withdraw}
use Rattle.cache_core.proofs.Keeps.{keeps, settles}
use Rattle.cache_core.proofs.Asks.{length_after, goes_by}
use Rattle.cache_core.specs.declared.step.Phase.{Phase}
use Rattle.cache_core.specs.declared.step.Phase.TheVariants.{Idle, Building, Holding, WaitKey as WaitsKey}
use Rattle.cache_core.specs.declared.step.Phase.TheVariants.{WaitRoom as WaitsRoom}
use Rattle.cache_core.specs.declared.step.Step.{Step}
use Rattle.cache_core.specs.declared.step.Step.TheVariants.{Hit, Evict, Reserve, Publish, Withdraw, Release, WaitKey}
use Rattle.cache_core.specs.declared.step.Step.TheVariants.{WaitRoom}
use Rattle.link_cache.specs.Counting.{owed, all_owed}
use Rattle.link_cache.specs.Kept.{IsRun}
use Rattle.link_cache.specs.declared.counts.Past.{Past}
use Rattle.link_cache.proofs.Owed.{asks_for, owes}

pub replays_more : (from to : CoreStateValue) (steps : List Step) (step : Step) → Replays from steps to →
    is_legal to step ≡ true → Replays from (steps ++ step ∷ []) (after to step)
replays_more from to [] step h l = (
  subst (λ (c : CoreStateValue). is_legal c step ≡ true) (sym h) l,
  ap (λ (c : CoreStateValue). after c step) h,
)
replays_more from to (s ∷ ss) step h l = (h.0, replays_more (after from s) to ss step h.1 l)

-- what a step adds to the counts of reservations, evictions and withdrawals
grows_is : (step : Step) → cond (is_reserve step) 1 0 ≡ grows_by step
grows_is (Hit seat key res) = refl
grows_is (Evict seat key res) = refl
grows_is (Reserve seat key res) = refl
grows_is (Publish seat res) = refl
grows_is (Withdraw seat res) = refl
grows_is (Release seat res) = refl
grows_is (WaitKey seat key res) = refl
grows_is (WaitRoom seat key) = refl

goes_is : (step : Step) → cond (is_evict step) 1 0 + cond (is_withdraw step) 1 0 ≡ goes_by step
goes_is (Hit seat key res) = refl
goes_is (Evict seat key res) = refl
goes_is (Reserve seat key res) = refl
goes_is (Publish seat res) = refl
goes_is (Withdraw seat res) = refl
goes_is (Release seat res) = refl
goes_is (WaitKey seat key res) = refl
goes_is (WaitRoom seat key) = refl

next_few : (next : ℕ) (step : Step) → next_after next step ≤ next + 1
next_few next (Hit seat key res) = omega arith
next_few next (Evict seat key res) = omega arith
next_few next (Reserve seat key res) = omega arith
next_few next (Publish seat res) = omega arith
next_few next (Withdraw seat res) = omega arith
next_few next (Release seat res) = omega arith
next_few next (WaitKey seat key res) = omega arith
next_few next (WaitRoom seat key) = omega arith

-- a step leaves the number of seats
pub same_seats : (phases : List Phase) (step : Step) → length (phases_after phases step) ≡ length phases
unfolding phases_after
same_seats phases (Hit seat key res) = length-set phases seat (Holding res)
same_seats phases (Evict seat key res) = refl
same_seats phases (Reserve seat key res) = length-set phases seat (Building res)
same_seats phases (Publish seat res) = length-set (map (called_by_key res) phases) seat (Holding res)
    ∙ length-map phases (called_by_key res)
same_seats phases (Withdraw seat res) = length-set (map (called_by_both res) phases) seat Idle
    ∙ length-map phases (called_by_both res)
same_seats phases (Release seat res) =
    let last : List Phase = set phases seat Idle in
    elim (cases_Bool (list_any (is_holding res) last)) [
      | inl b ↦ ap length (cond-true (list_any (is_holding res) last) last (map called_by_room last) b)
          ∙ length-set phases seat Idle
      | inr b ↦ ap length (cond-false (list_any (is_holding res) last) last (map called_by_room last) b)
          ∙ (length-map last called_by_room ∙ length-set phases seat Idle)
    ]
same_seats phases (WaitKey seat key res) = length-set phases seat (WaitsKey res)
same_seats phases (WaitRoom seat key) = length-set phases seat WaitsRoom

-- a run with a legal step more is a run, where there is room for what the step asks for
pub runs_on : (opening core : CoreStateValue) (journal : List Step) (past : Past) (step : Step) →
    IsRun opening core journal past → is_legal core step ≡ true →
    past.steps + length journal + all_owed core.phases + asks_for step ≤ 2 ^ 62 →
    IsRun opening (after core step) (journal ++ step ∷ []) past
runs_on opening core journal past step run legal short =
    let long = length_push journal step in
    let grown = length_after core step run.sound legal in
    let a = grows_is step in
    let b = goes_is step in
    let r = sum_by_push (λ x. cond (is_reserve x) 1 0) journal step in
    let e = sum_by_push (λ x. cond (is_evict x) 1 0) journal step in
    let w = sum_by_push (λ x. cond (is_withdraw x) 1 0) journal step in
    let n = next_few core.next_res step in
    let o = owes core step legal in
    record {
      replay = replays_more opening core journal step run.replay legal;
      sound = keeps core step run.sound legal;
      capacity = run.capacity;
      seats = run.seats ∙ sym (same_seats core.phases step);
      few = (let k = same_seats core.phases step in omega (arith, k, run.few));
      balance = omega (arith, run.balance, grown, a, b, r, e, w);
      next = omega (arith, run.next, n, long);
      leases = run.leases;
      built = run.built;
      evicted = run.evicted;
      short = omega (arith, short, o, long);
    }

-- where every seat is idle, no step is owed
pub idle_owes : (phases : List Phase) → all_owed (map idle phases) ≡ 0
idle_owes [] = refl
idle_owes (x ∷ xs) = let a = sum_by-cons owed Idle (map idle xs) in let b = idle_owes xs in omega (arith, a, b)

-- no step that is owed passes the bounds
pub next_fits : (opening core : CoreStateValue) (journal : List Step) (past : Past) → IsRun opening core journal past →
    core.next_res < 2 ^ 64 - 1
next_fits opening core journal past run = omega (arith, run.next, run.short)

-- a quiet cache whose journal is counted
pub settles_run : (opening core : CoreStateValue) (journal : List Step) (past : Past) →
    IsRun opening core journal past → is_quiet core ≡ true →
    IsRun (settled core) (settled core) [] (record {
      steps = past.steps + length journal;
      leases = past.leases
          + count_by is_lease journal;
      built = past.built + count_by is_reserve journal
          - count_by is_withdraw journal;
      evicted = past.evicted + count_by is_evict journal;
    })
settles_run opening core journal past run quiet =
    let a = count_by-le-length is_lease journal in
    let b = count_by-le-length is_reserve journal in
    let c = count_by-le-length is_evict journal in
    let same : all_owed (map idle core.phases) ≡ 0 = idle_owes core.phases in
    record {
      replay = refl;
      sound = settles core run.sound quiet;
      capacity = refl;
      seats = refl;
      few = (let k = length-map core.phases idle in omega (arith, k, run.few));
      balance = omega (arith, run.balance);
      next = omega (arith, run.next);
      leases = omega (arith, a, run.leases);
      built = omega (arith, b, run.built);
      evicted = omega (arith, c, run.evicted);
      short = omega (arith, same, run.short);
    }

-- the counts of a settled cache are those before
pub balanced : (opening core : CoreStateValue) (journal : List Step) (past : Past) → IsRun opening core journal past →
    past.built + count_by is_reserve journal - count_by is_withdraw journal ≡ past.evicted + count_by is_evict journal
    + length core.entries
balanced opening core journal past run = omega (arith, run.balance)
