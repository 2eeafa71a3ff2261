-- Seats in places, and numbers that are out.
use Rattle.std.proofs.Common.{◌≡◌, ◌≢◌, ◌⊎◌, ℕ, zero, suc, ◌+◌, ◌<◌, Bool, true, false, ◌&&◌, cond, List, [], ◌∷◌}
use Rattle.std.proofs.Common.{◌++◌, length, refl, sym, ap, subst, ◌∙◌, ⊎_elim, inl, inr, arith, Option, Some, None}
use Rattle.std.proofs.Common.{is_some, IfSome, IfNone, position, get_or, slice_get, slice_set, eq-eqb, ne_eqb}
use Rattle.std.specs.List.{list_all}
use Rattle.std.proofs.lemmas.Bool.{and_parts, cases_lt}
use Rattle.std.proofs.lemmas.List.{length-append}
use Rattle.std.proofs.lemmas.List.Folds.{list_all-append}
use mathlib.Core.Bool.{true≢false}
use Rattle.std.proofs.lemmas.Option.{none-some, same_Some, slice_get-get_or}
use Rattle.std.proofs.lemmas.List.Quantifiers.{position-Some}
use mathlib.Core.Logic.{dite}
use native.Mathlib.Decide.{ℕ_discrete}
use Rattle.cache_core.specs.Lookup.{phase_of, is_free}
use Rattle.cache_core.specs.declared.step.Phase.{Phase}
use Rattle.cache_core.specs.declared.step.Phase.TheVariants.{Idle, Building, Holding, WaitKey, WaitRoom, Called}
use Rattle.turnstile.specs.TurnRule.{IsMember}
use Rattle.turnstile.specs.Steps.{without}
use Rattle.turnstile.specs.declared.claim.Claim.TheVariants.{Free}
use Rattle.cache_wait.specs.Claims.{claim_from}
use Rattle.cache_wait.specs.Seats.{AreAt, total_of, TakesFirst}
use Rattle.cache_wait.proofs.Claiming.{free_phase}

-- where a list with one more at the end has something
push_cases : {X : Type 0} (xs : List X) (x y : X) (k : ℕ) → slice_get (xs ++ x ∷ []) k ≡ Some y
    → (slice_get xs k ≡ Some y) ⊎ ((k ≡ length xs) × (x ≡ y))
push_cases [] x y zero h = inr (refl, same_Some x y h)
push_cases [] x y (suc k) h = absurd (none-some y h)
push_cases (z ∷ xs) x y zero h = inl h
push_cases (z ∷ xs) x y (suc k) h = ⊎_elim inl (λ t. inr (ap suc t.0, t.1)) (push_cases xs x y k h)

push_keeps : {X : Type 0} (xs : List X) (x y : X) (k : ℕ) → slice_get xs k ≡ Some y
    → slice_get (xs ++ x ∷ []) k ≡ Some y
push_keeps [] x y k h = absurd (none-some y h)
push_keeps (z ∷ xs) x y zero h = h
push_keeps (z ∷ xs) x y (suc k) h = push_keeps xs x y k h

push_last : {X : Type 0} (xs : List X) (x : X) → slice_get (xs ++ x ∷ []) (length xs) ≡ Some x
push_last [] x = refl
push_last (z ∷ xs) x = push_last xs x

module _ {A : Type 0} (fit : ℕ → A → Type 0) where
  -- one more in the place behind the last
  pub at_pushed : (old new : List (Option A)) (a : A) → new ≡ old ++ Some a ∷ [] → AreAt fit old → fit (length old) a
      → AreAt fit new
  at_pushed old new a e all one = subst (AreAt fit) (sym e) (λ k b h. ⊎_elim (λ t. all k b t)
      (λ t. subst (λ n. fit n b) (sym t.0) (subst (λ y. fit (length old) y) (same_Some a b t.1) one))
      (push_cases old (Some a) (Some b) k h))

  -- the places but the last
  pub at_front : (old new : List (Option A)) (o : Option A) → old ≡ new ++ o ∷ [] → AreAt fit old → AreAt fit new
  at_front old new o e all = λ k b h. (subst (AreAt fit) e all) k b (push_keeps new o (Some b) k h)

  -- the last place
  pub at_last : (old new : List (Option A)) (a : A) → old ≡ new ++ Some a ∷ [] → AreAt fit old → fit (length new) a
  at_last old new a e all = (subst (AreAt fit) e all) (length new) a (push_last new (Some a))

emptied : {A : Type 0} (xs : List (Option A)) (k j : ℕ) (a : A) → slice_get (slice_set xs k None) j ≡ Some (Some a)
    → slice_get xs j ≡ Some (Some a)
emptied [] k j a h = h
emptied (x ∷ xs) zero zero a h = absurd (none-some a (same_Some None (Some a) h))
emptied (x ∷ xs) zero (suc j) a h = h
emptied (x ∷ xs) (suc k) zero a h = h
emptied (x ∷ xs) (suc k) (suc j) a h = emptied xs k j a h

put_cases : {A : Type 0} (xs : List (Option A)) (k j : ℕ) (a b : A)
    → slice_get (slice_set xs k (Some a)) j ≡ Some (Some b)
    → (slice_get xs j ≡ Some (Some b)) ⊎ ((j ≡ k) × (a ≡ b))
put_cases [] k j a b h = inl h
put_cases (x ∷ xs) zero zero a b h = inr (refl, same_Some a b (same_Some (Some a) (Some b) h))
put_cases (x ∷ xs) zero (suc j) a b h = inl h
put_cases (x ∷ xs) (suc k) zero a b h = inl h
put_cases (x ∷ xs) (suc k) (suc j) a b h = ⊎_elim inl (λ t. inr (ap suc t.0, t.1)) (put_cases xs k j a b h)

module _ {A : Type 0} (fit : ℕ → A → Type 0) where
  -- one more in an empty place
  pub at_put : (old new : List (Option A)) (k : ℕ) (a : A) → new ≡ slice_set old k (Some a) → AreAt fit old → fit k a
      → AreAt fit new
  at_put old new k a e all one = subst (AreAt fit) (sym e) (λ j b h. ⊎_elim (λ t. all j b t)
      (λ t. subst (λ n. fit n b) (sym t.0) (subst (λ y. fit k y) t.1 one))
      (put_cases old k j a b h))

  -- once the first was taken
  pub at_taken : (r : Option A) (old new : List (Option A)) → TakesFirst r old new → AreAt fit old → AreAt fit new
  at_taken None old new t all = subst (AreAt fit) (sym t.1) all
  at_taken (Some a) old new t all = subst (AreAt fit) (sym t.3) (λ j b h. all j b (emptied old t.0 j b h))

-- what was taken is as all were
pub taken_fits : {A : Type 0} (P : A → Type 0) (r : Option A) (old new : List (Option A)) → TakesFirst r old new
    → ((k : ℕ) (a : A) → slice_get old k ≡ Some (Some a) → P a) → IfSome r P
taken_fits P None old new t all = tt
taken_fits P (Some a) old new t all = all t.0 a t.2

-- what was taken was in the first place that had something, which is that of its number
pub taken_first : {A : Type 0} (number : A → ℕ) (r : Option A) (old new : List (Option A)) → TakesFirst r old new
    → AreAt (λ k a. number a ≡ k) old
    → IfSome r (λ a. (position is_some old ≡ Some (number a)) × (slice_get old (number a) ≡ Some (Some a))
    × (new ≡ slice_set old (number a) None))
taken_first number None old new t all = tt
taken_first number (Some a) old new t all =
    subst (λ n. (position is_some old ≡ Some n) × (slice_get old n ≡ Some (Some a)) × (new ≡ slice_set old n None))
    (sym (all t.0 a t.2)) (t.1, t.2, t.3)

pub none_taken : {A : Type 0} (r : Option A) (old new : List (Option A)) → TakesFirst r old new
    → IfNone r ((position is_some old ≡ None) × (new ≡ old))
none_taken None old new t = t
none_taken (Some a) old new t = tt

-- what is in the first place that has something, taken out
pub takes_first : {A : Type 0} (o : Option A) (old new : List (Option A)) (k : ℕ) → position is_some old ≡ Some k
    → o ≡ get_or old k o → new ≡ slice_set old k None → TakesFirst o old new
takes_first None old new k p o s = absurd
    (true≢false (sym (position-Some is_some old k None p).1 ∙ ap is_some (sym o)))
takes_first (Some a) old new k p o s =
    (k, p, slice_get-get_or old k (Some a) (position-Some is_some old k (Some a) p).0 ∙ ap Some (sym o), s)

module _ {A : Type 0} (amount : A → ℕ) where
  -- what they amount to with one more at the end
  total_push : (xs : List (Option A)) (a : A) → total_of amount (xs ++ Some a ∷ []) ≡ total_of amount xs + amount a
  total_push [] a = omega arith
  total_push (None ∷ xs) a = total_push xs a
  total_push (Some x ∷ xs) a = let t = total_push xs a in omega (arith, t)

  pub total_pushed : (old new : List (Option A)) (a : A) → new ≡ old ++ Some a ∷ []
      → total_of amount new ≡ total_of amount old + amount a
  total_pushed old new a e = ap (total_of amount) e ∙ total_push old a

  total_put : (xs : List (Option A)) (k : ℕ) (a : A) → slice_get xs k ≡ Some None
      → total_of amount (slice_set xs k (Some a)) ≡ total_of amount xs + amount a
  total_put [] k a h = absurd (none-some None h)
  total_put (None ∷ xs) zero a h = omega arith
  total_put (Some x ∷ xs) zero a h = absurd (none-some x (sym (same_Some (Some x) None h)))
  total_put (None ∷ xs) (suc k) a h = total_put xs k a h
  total_put (Some x ∷ xs) (suc k) a h = let t = total_put xs k a h in omega (arith, t)

  -- and with one more in an empty place
  pub total_filled : (old new : List (Option A)) (n k : ℕ) (a : A) → new ≡ slice_set old k (Some a) → n ≡ k
      → slice_get old n ≡ Some None → total_of amount new ≡ total_of amount old + amount a
  total_filled old new n k a e same none =
      ap (total_of amount) e ∙ total_put old k a (ap (slice_get old) (sym same) ∙ none)

  total_emptied : (xs : List (Option A)) (k : ℕ) (a : A) → slice_get xs k ≡ Some (Some a)
      → total_of amount xs ≡ amount a + total_of amount (slice_set xs k None)
  total_emptied [] k a h = absurd (none-some (Some a) h)
  total_emptied (None ∷ xs) zero a h = absurd (none-some a (same_Some None (Some a) h))
  total_emptied (Some x ∷ xs) zero a h =
      ap (λ y. amount y + total_of amount xs) (same_Some x a (same_Some (Some x) (Some a) h))
  total_emptied (None ∷ xs) (suc k) a h = total_emptied xs k a h
  total_emptied (Some x ∷ xs) (suc k) a h = let t = total_emptied xs k a h in omega (arith, t)

  -- and once the first was taken
  pub total_taken : (r : Option A) (old new : List (Option A)) → TakesFirst r old new
      → IfSome r (λ a. total_of amount old ≡ amount a + total_of amount new)
  total_taken None old new t = tt
  total_taken (Some a) old new t =
      total_emptied old t.0 a t.2 ∙ ap (λ xs. amount a + total_of amount xs) (sym t.3)

push_all : {A : Type 0} (xs : List (Option A)) (o : Option A)
    → list_all is_some (xs ++ o ∷ []) ≡ (list_all is_some xs && is_some o)
push_all xs o = list_all-append is_some xs (o ∷ []) ∙ ap (λ b. list_all is_some xs && b) (and_true (is_some o))
  where
    and_true : (b : Bool) → (b && true) ≡ b
    and_true true = refl
    and_true false = refl

-- all places have something, with one more that has
pub all_pushed : {A : Type 0} (old new : List (Option A)) (a : A) → new ≡ old ++ Some a ∷ []
    → list_all is_some old ≡ true → list_all is_some new ≡ true
all_pushed old new a e all = ap (list_all is_some) e ∙ (push_all old (Some a) ∙ ap (λ b. b && true) all)

-- and the last one has, and those before
pub all_popped : {A : Type 0} (old new : List (Option A)) (o : Option A) → old ≡ new ++ o ∷ []
    → list_all is_some old ≡ true → (list_all is_some new ≡ true) × (is_some o ≡ true)
all_popped old new o e all =
    and_parts (list_all is_some new) (is_some o) (sym (push_all new o) ∙ (sym (ap (list_all is_some) e) ∙ all))

-- one more
pub long_pushed : {X : Type 0} (old new : List X) (x : X) → new ≡ old ++ x ∷ [] → length new ≡ length old + 1
long_pushed old new x e = ap length e ∙ length-append old (x ∷ [])

-- without a number, the others
pub of_without : (n m : ℕ) (xs : List ℕ) → IsMember m (without n xs) → IsMember m xs × (m ≢ n)
of_without n m [] h = absurd h
of_without n m (x ∷ xs) h = dite (ℕ_discrete n x)
    (λ e. let t = of_without n m xs
    (subst (λ b. IsMember m (cond b (without n xs) (x ∷ without n xs))) (eq-eqb n x e) h) in (inr t.0, t.1))
    (λ no. ⊎_elim (λ here. (inl here, λ e. no (sym e ∙ here)))
    (λ u. let t = of_without n m xs u in (inr t.0, t.1))
    (subst (λ b. IsMember m (cond b (without n xs) (x ∷ without n xs))) (ne_eqb n x no) h))

-- below one more than a number, and not it
pub below : (m n : ℕ) → m < n + 1 → m ≢ n → m < n
below m n l ne = ⊎_elim (λ h. h) (λ h. absurd (ne (omega (arith, l, h)))) (cases_lt m n)

-- with no number there is none
pub none_in : (xs : List ℕ) → ((m : ℕ) → IsMember m xs → m < 0) → xs ≡ []
none_in [] h = refl
none_in (x ∷ xs) h = let k = h x (inl refl) in absurd (omega (arith, k))

-- where no seat claims anything, the cache is quiet
pub all_free : (phases : List Phase) → ((n : ℕ) → n < length phases → claim_from (phase_of phases n) ≡ Free)
    → list_all is_free phases ≡ true
all_free [] h = refl
all_free (p ∷ ps) h = let a = free_phase p (h 0 (omega arith)) in
    let b = all_free ps (λ n l. h (suc n) (omega (arith, l))) in λ i. a i && b i

claims_nothing : (p : Phase) → is_free p ≡ true → claim_from p ≡ Free
claims_nothing Idle e = refl
claims_nothing (Building r) e = absurd (true≢false (sym e))
claims_nothing (Holding r) e = absurd (true≢false (sym e))
claims_nothing (WaitKey r) e = refl
claims_nothing WaitRoom e = refl
claims_nothing Called e = refl

-- and where the cache is quiet, no seat claims anything
pub quiet_free : (phases : List Phase) → list_all is_free phases ≡ true
    → (n : ℕ) → claim_from (phase_of phases n) ≡ Free
quiet_free [] e n = refl
quiet_free (p ∷ ps) e zero = claims_nothing p (and_parts (is_free p) (list_all is_free ps) e).0
quiet_free (p ∷ ps) e (suc n) = quiet_free ps (and_parts (is_free p) (list_all is_free ps) e).1 n
