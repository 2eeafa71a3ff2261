-- What the calls of the cache leave of its counts, its size and its keys.
use Rattle.std.proofs.Common.{◌≡◌, ◌&&◌, ℕ, ◌+◌, Bool, true, false, cond, List, [], ◌∷◌, ◌++◌, length, refl, sym, ap}
use Rattle.std.proofs.Common.{subst, ◌∙◌, arith, ⊎_elim, count_by}
use Rattle.std.proofs.lemmas.List.Sums.{sum_by-append}
use Rattle.std.proofs.lemmas.List.Folds.{list_all-append}
use Rattle.cache_core.specs.Replay.{is_lease}
use Rattle.cache_core.specs.Steps.{asked, after}
use Rattle.cache_core.specs.declared.step.Step.{Step}
use Rattle.cache_core.specs.declared.step.Step.TheVariants.{Hit, Evict, Reserve, Publish, Withdraw, Release, WaitKey}
use Rattle.cache_core.specs.declared.step.Step.TheVariants.{WaitRoom}
use Rattle.link_cache.specs.CacheState.{CacheStateValue, did, did_if, asking_from, told_by, counts_of, Looked}
use Rattle.link_cache.specs.Look.{LookValue}
use Rattle.link_cache.proofs.Runs.{same_seats}
use Rattle.cache_wait.specs.Claims.{leases_told}
use Rattle.cache_wait.specs.Keys.{is_askable, are_askable}

-- the leases that some steps give
abbrev leases_in : List Step → ℕ
leases_in steps = count_by is_lease steps

more_leases : (journal steps : List Step) → leases_in (journal ++ steps) ≡ leases_in journal + leases_in steps
more_leases journal steps = sum_by-append (λ x. cond (is_lease x) 1 0) journal steps

abbrev one_if : Bool → ℕ
one_if b = cond b 1 0

-- a state and another after it, which has so many leases more, and the same size
pub record Follows (old new : CacheStateValue) (more : ℕ) : Type 0 where
  pub leases : (counts_of new).leases ≡ (counts_of old).leases + more
  pub capacity : new.core.capacity ≡ old.core.capacity
  pub seats : length new.core.phases ≡ length old.core.phases

follows_if : (legal : Bool) (old : CacheStateValue) (step : Step) → is_lease step ≡ false
    → Follows old (did_if legal old step) 0
follows_if true old step e =
    let none : one_if (is_lease step) ≡ 0 = ap one_if e in let k = more_leases old.journal (step ∷ []) in record {
      leases = omega (arith, k, none);
      capacity = refl;
      seats = same_seats old.core.phases step;
    }
follows_if false old step e = record { leases = omega arith; capacity = refl; seats = refl }

names_if : (legal : Bool) (old : CacheStateValue) (step : Step) → (did_if legal old step).named ≡ old.named
names_if true old step = refl
names_if false old step = refl

-- a step that gives no lease
pub step_follows : (legal : Bool) (old new : CacheStateValue) (step : Step) → new ≡ did_if legal old step
    → is_lease step ≡ false → Follows old new 0
step_follows legal old new step e none =
    subst (λ (s : CacheStateValue). Follows old s 0) (sym e) (follows_if legal old step none)

-- and names no key
pub step_names : (legal : Bool) (old new : CacheStateValue) (step : Step) → new ≡ did_if legal old step
    → new.named ≡ old.named
step_names legal old new step e = ap (λ (s : CacheStateValue). s.named) e ∙ names_if legal old step

asking_follows : (old : CacheStateValue) (names : List (List ℕ)) (seat next : ℕ) (mark : List ℕ) (step : Step)
    → Follows old (did old names (asking_from next step)) (leases_told (told_by seat next mark step))
asking_follows old names seat next mark (Hit s k r) =
    let m = more_leases old.journal (Hit s k r ∷ []) in record {
      leases = omega (
        arith,
        m,
      );
      capacity = refl;
      seats = same_seats old.core.phases (Hit s k r);
    }
asking_follows old names seat next mark (Evict s k r) =
    let m = more_leases old.journal (Evict s k r ∷ Reserve s k next ∷ []) in record {
      leases = omega (arith, m);
      capacity = refl;
      seats = same_seats (after old.core (Evict s k r)).phases (Reserve s k next)
          ∙ same_seats old.core.phases (Evict s k r);
    }
asking_follows old names seat next mark (Reserve s k r) =
    let m = more_leases old.journal (Reserve s k r ∷ []) in record {
      leases = omega (
        arith,
        m,
      );
      capacity = refl;
      seats = same_seats old.core.phases (Reserve s k r);
    }
asking_follows old names seat next mark (Publish s r) =
    let m = more_leases old.journal (Publish s r ∷ []) in record {
      leases = omega (
        arith,
        m,
      );
      capacity = refl;
      seats = same_seats old.core.phases (Publish s r);
    }
asking_follows old names seat next mark (Withdraw s r) =
    let m = more_leases old.journal (Withdraw s r ∷ []) in record {
      leases = omega (
        arith,
        m,
      );
      capacity = refl;
      seats = same_seats old.core.phases (Withdraw s r);
    }
asking_follows old names seat next mark (Release s r) =
    let m = more_leases old.journal (Release s r ∷ []) in record {
      leases = omega (
        arith,
        m,
      );
      capacity = refl;
      seats = same_seats old.core.phases (Release s r);
    }
asking_follows old names seat next mark (WaitKey s k r) =
    let m = more_leases old.journal (WaitKey s k r ∷ []) in record {
      leases = omega (
        arith,
        m,
      );
      capacity = refl;
      seats = same_seats old.core.phases (WaitKey s k r);
    }
asking_follows old names seat next mark (WaitRoom s k) =
    let m = more_leases old.journal (WaitRoom s k ∷ []) in record {
      leases = omega (
        arith,
        m,
      );
      capacity = refl;
      seats = same_seats old.core.phases (WaitRoom s k);
    }

-- a look gives the lease that it tells of
pub look_follows : (seat : ℕ) (mark : List ℕ) (old new : CacheStateValue) (told : LookValue) (place : ℕ)
    → Looked seat mark old told new place → Follows old new (leases_told told)
look_follows seat mark old new told place look =
    subst (λ (t : LookValue). Follows old new (leases_told t)) (sym look.answer)
    (subst (λ (s : CacheStateValue). Follows old s (leases_told (told_by seat old.core.next_res mark
    (asked old.core seat place)))) (sym look.steps)
    (asking_follows old new.named seat old.core.next_res mark (asked old.core seat place)))

-- and names no key but the one that it is asked for
pub look_names : (askable : List (List ℕ)) (seat : ℕ) (mark : List ℕ) (old new : CacheStateValue) (told : LookValue)
    (place : ℕ)
    → Looked seat mark old told new place → is_askable askable mark ≡ true → are_askable askable old.named ≡ true
    → are_askable askable new.named ≡ true
look_names askable seat mark old new told place look one all =
    ⊎_elim (λ (e : new.named ≡ old.named). ap (are_askable askable) e ∙ all)
    (λ (e : new.named ≡ old.named ++ mark ∷ []). ap (are_askable askable) e
    ∙ (list_all-append (is_askable askable) old.named (mark ∷ [])
    ∙ both (are_askable askable old.named) (is_askable askable mark) all one))
    look.name.list
  where
    both : (a b : Bool) → a ≡ true → b ≡ true → (a && (b && true)) ≡ true
    both a b e f = λ i. e i && (f i && true)
