-- A lease of the one seat, lent and taken back, in the counts.
use Rattle.std.proofs.Common.{◌≡◌, ℕ, ◌<◌, true, false, cond, List, [], ◌∷◌, ◌++◌, refl, sym, ap, ◌∙◌, arith, count_by}
use Rattle.std.proofs.lemmas.Bool.{eq-eqb}
use Rattle.std.proofs.lemmas.List.Sums.{sum_by-append}
use Rattle.cache_core.specs.CoreState.{CoreStateValue}
use Rattle.cache_core.specs.Lookup.{phase_of, is_holding}
use Rattle.cache_core.specs.Steps.{is_legal, after, asked, IsAsking}
use Rattle.cache_core.specs.Lru.{makes, drops, serving, serving_by, keys_of, IsServed}
use Rattle.cache_core.specs.declared.step.Phase.TheVariants.{Idle, Holding}
use Rattle.cache_core.specs.declared.step.Step.{Step}
use Rattle.cache_core.specs.declared.step.Step.TheVariants.{Hit, Evict, Reserve, Publish, Withdraw, Release, WaitKey}
use Rattle.cache_core.specs.declared.step.Step.TheVariants.{WaitRoom}
use Rattle.cache_core.proofs.Asks.{asked_asks}
use Rattle.cache_core.proofs.OneSeat.{served}
use Rattle.cache_core.specs.Replay.{after_all, is_wait, is_lease, is_reserve, is_evict, is_withdraw}
use Rattle.link_cache.specs.CacheState.{CacheStateValue, did, counts_of}
use Rattle.link_cache.specs.Kept.{IsRun}
use Rattle.link_cache.specs.Serving.{taking, taking_by, taken, IsLent, IsOneUse}
use Rattle.link_cache.specs.Ticket.{Ticket}
use Rattle.link_cache.proofs.Lending.{did_more}

-- the one seat may release what it holds
pub may_release : (core : CoreStateValue) (seat res : ℕ) → seat ≡ 0 → core.phases ≡ Holding res ∷ [] →
    is_legal core (Release seat res) ≡ true
unfolding is_legal
may_release core seat res z h = ap (λ ps. is_holding res (phase_of ps seat)) h
    ∙ (ap (λ (n : ℕ). is_holding res (phase_of (Holding res ∷ []) n)) z ∙ eq-eqb res res refl)

after_capacity : (core : CoreStateValue) (steps : List Step) → (after_all core steps).capacity ≡ core.capacity
after_capacity core [] = refl
after_capacity core (s ∷ ss) = after_capacity (after core s) ss

-- what the steps that serve a key count
record Counted (next : ℕ) (step : Step) : Type 0 where
  leases : count_by is_lease (serving_by next step) ≡ 1
  reserves : count_by is_reserve (serving_by next step) ≡ makes step
  evicts : count_by is_evict (serving_by next step) ≡ drops step
  withdraws : count_by is_withdraw (serving_by next step) ≡ 0

counted : (next key : ℕ) (step : Step) → IsAsking 0 key step → is_wait step ≡ false → Counted next step
counted next key (Hit s k r) a w = record { leases = refl; reserves = refl; evicts = refl; withdraws = refl }
counted next key (Evict s k r) a w = record { leases = refl; reserves = refl; evicts = refl; withdraws = refl }
counted next key (Reserve s k r) a w = record { leases = refl; reserves = refl; evicts = refl; withdraws = refl }
counted next key (Publish s r) a w = absurd a
counted next key (Withdraw s r) a w = absurd a
counted next key (Release s r) a w = absurd a
counted next key (WaitKey s k r) a w = let v : true ≡ false = w in cc
counted next key (WaitRoom s k) a w = let v : true ≡ false = w in cc

back_from : (next key : ℕ) (step : Step) → IsAsking 0 key step → is_wait step ≡ false → taking_by next step
    ++ Release 0 (taken next step) ∷ [] ≡ serving_by next step
back_from next key (Hit s k r) a w = ap (λ (n : ℕ). Hit s k r ∷ Release n r ∷ []) (sym a.0)
back_from next key (Evict s k r) a w = ap
    (λ (n : ℕ). Evict s k r ∷ Reserve s k next ∷ Publish s next ∷ Release n next ∷ []) (sym a.0)
back_from next key (Reserve s k r) a w = ap (λ (n : ℕ). Reserve s k r ∷ Publish s r ∷ Release n r ∷ []) (sym a.0)
back_from next key (Publish s r) a w = absurd a
back_from next key (Withdraw s r) a w = absurd a
back_from next key (Release s r) a w = absurd a
back_from next key (WaitKey s k r) a w = let v : true ≡ false = w in cc
back_from next key (WaitRoom s k) a w = let v : true ≡ false = w in cc

-- the one seat has used a key and is idle again once it has released what it was lent
pub one_use : (old lent new : CacheStateValue) (mark : List ℕ) (lease : Ticket) (place : ℕ) →
    IsRun old.opening old.core old.journal old.past → old.core.phases ≡ Idle ∷ [] → 0 < old.core.capacity →
    IsLent old mark lease lent place → new ≡ did lent lent.named (Release 0 lease.res ∷ []) → IsOneUse old new place
one_use old lent new mark lease place r idle room l new_is =
    let s : IsServed old.core place = served old.core place r.sound idle room in
    let step : Step = asked old.core 0 place in
    let asks = asked_asks old.core 0 place in
    let n = counted old.core.next_res place step asks s.told in
    let steps : taking old.core place ++ Release 0 lease.res ∷ [] ≡ serving old.core place =
    ap (λ (k : ℕ). taking old.core place ++ Release 0 k ∷ []) l.res
    ∙ back_from old.core.next_res place step asks s.told in
    let whole : new ≡ did old lent.named (serving old.core place) = new_is
    ∙ (ap (λ (c : CacheStateValue). did c lent.named (Release 0 lease.res ∷ [])) l.steps
    ∙ (did_more old lent.named (taking old.core place) (Release 0 lease.res) ∙ ap (did old lent.named) steps)) in
    let core_is : new.core ≡ after_all old.core (serving old.core place) = ap (λ (c : CacheStateValue). c.core) whole in
    let a = sum_by-append (λ x. cond (is_lease x) 1 0) old.journal (serving old.core place) in
    let b = sum_by-append (λ x. cond (is_reserve x) 1 0) old.journal (serving old.core place) in
    let c = sum_by-append (λ x. cond (is_evict x) 1 0) old.journal (serving old.core place) in
    let d = sum_by-append (λ x. cond (is_withdraw x) 1 0) old.journal (serving old.core place) in
    let leases = ap (λ (x : CacheStateValue). (counts_of x).leases) whole in
    let built = ap (λ (x : CacheStateValue). (counts_of x).built) whole in
    let evicted = ap (λ (x : CacheStateValue). (counts_of x).evicted) whole in
    record {
      keys = ap keys_of core_is ∙ s.keys;
      idle = ap (λ (x : CoreStateValue). x.phases) core_is ∙ s.idle;
      capacity = ap (λ (x : CoreStateValue). x.capacity) core_is ∙ after_capacity old.core (serving old.core place);
      leases = omega (arith, leases, a, n.leases);
      built = omega (arith, built, b, d, n.reserves, n.withdraws, s.made, r.balance);
      evicted = omega (arith, evicted, c, n.evicts, s.dropped);
    }
