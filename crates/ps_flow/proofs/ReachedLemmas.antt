-- The procedures that are reached from one: those that the definition lists are those of the relation.
use Rattle.std.proofs.Common.{◌≡◌, ◌≤◌, ◌<◌, ◌+◌, ◌++◌, ◌⊎◌, inl, inr, length, Bool, true, false, ℕ, zero, suc, List}
use Rattle.std.proofs.Common.{[], ◌∷◌, Some, refl, sym, subst, arith}
use Rattle.std.specs.List.{flat_map}
use Rattle.ps_store.specs.Parts.{PartValue}
use Rattle.ps_store.specs.Store.{StoreValue}
use Rattle.ps_flow.specs.Binding.{Reaches, here, further, has, procedure_at, procedures_in, procedures_with, reached}
use Rattle.ps_flow.specs.Binding.{reached_in, same_part}
use Rattle.ps_flow.specs.Code.Visits.{missing, unvisited}
use Rattle.ps_flow.proofs.ReachLemmas.{has_cases, has_from, has_left, has_right, or_cases, or_left, or_right}
use Rattle.ps_flow.proofs.ReachLemmas.{place_from, place_in_store, same_itself, same_true}
use Rattle.ps_flow.proofs.VisitLemmas.{unvisited_fewer, unvisited_no_more}

-- the elements of these are those of one of them
elements_from : (s : StoreValue) (procedures : List PartValue) (r : PartValue) →
    has (flat_map (procedures_in s) procedures) r ≡ true → (q : PartValue) × (has procedures q ≡ true) ×
    (has (procedures_in s q) r ≡ true)
elements_from s [] r h = cc
elements_from s (q ∷ procedures) r h =
    elim (has_cases (procedures_in s q) (flat_map (procedures_in s) procedures) r h) [
      | inl its ↦ (q, or_left (same_part q q) (has procedures q) (same_itself q), its)
      | inr later ↦ (let rest = elements_from s procedures r later in
          (rest.0, or_right (same_part rest.0 q) (has procedures rest.0) rest.1, rest.2))
    ]

-- the elements of one of these are among theirs
elements_there : (s : StoreValue) (procedures : List PartValue) (q r : PartValue) → has procedures q ≡ true →
    has (procedures_in s q) r ≡ true → has (flat_map (procedures_in s) procedures) r ≡ true
elements_there s [] q r there is = cc
elements_there s (c ∷ procedures) q r there is = elim (or_cases (same_part q c) (has procedures q) there) [
  | inl same ↦ has_left (procedures_in s c) (flat_map (procedures_in s) procedures) r
      (subst (λ x. has (procedures_in s x) r ≡ true) (same_true q c same) is)
  | inr among ↦ has_right (procedures_in s c) (flat_map (procedures_in s) procedures) r
      (elements_there s procedures q r among is)
]

-- with their elements these are all
abbrev AreClosed : StoreValue → List PartValue → Type 0
AreClosed s procedures = (q r : PartValue) (at : ℕ) → has procedures q ≡ true → at < q.len →
    procedure_at s q at ≡ Some r → has procedures r ≡ true

-- a procedure at a place of one of these is among their elements
element_there : (s : StoreValue) (procedures : List PartValue) (q r : PartValue) (at : ℕ) → has procedures q ≡ true →
    at < q.len → procedure_at s q at ≡ Some r → has (flat_map (procedures_in s) procedures) r ≡ true
element_there s procedures q r at there within is = elements_there s procedures q r there
    (has_from s q r 0 q.len at (omega arith) (omega (arith, within)) is)

-- where these are closed, their elements are among them
element_among : (s : StoreValue) (procedures : List PartValue) → AreClosed s procedures → (r : PartValue) →
    has (procedures ++ flat_map (procedures_in s) procedures) r ≡ true → has procedures r ≡ true
element_among s procedures closed r h =
    elim (has_cases procedures (flat_map (procedures_in s) procedures) r h) [
      | inl there ↦ there
      | inr element ↦ (let from = elements_from s procedures r element in
          let at = place_from s from.0 r 0 from.0.len from.2 in
          closed from.0 r at.0 from.1 (omega (arith, at.1)) at.2)
    ]

-- and stay closed with them
closed_more : (s : StoreValue) (procedures : List PartValue) → AreClosed s procedures →
    AreClosed s (procedures ++ flat_map (procedures_in s) procedures)
closed_more s procedures closed q r at there within is =
    has_left procedures (flat_map (procedures_in s) procedures) r
    (closed q r at (element_among s procedures closed q there) within is)

closed_stay : (s : StoreValue) (steps : ℕ) (procedures : List PartValue) → AreClosed s procedures →
    AreClosed s (reached_in s steps procedures)
unfolding reached_in
closed_stay s zero procedures closed = closed
closed_stay s (suc steps) procedures closed = closed_stay s steps
    (procedures ++ flat_map (procedures_in s) procedures) (closed_more s procedures closed)

-- one of these is new, or none
which_new : (found procedures : List PartValue) →
    ((r : PartValue) × (has found r ≡ true) × (has procedures r ≡ false))
    ⊎ ((r : PartValue) → has found r ≡ true → has procedures r ≡ true)
which_new [] procedures = inr (λ r h. cc)
which_new (c ∷ found) procedures = by_first (has procedures c) refl (which_new found procedures)
  where
    by_first : (b : Bool) → has procedures c ≡ b →
        ((r : PartValue) × (has found r ≡ true) × (has procedures r ≡ false))
        ⊎ ((r : PartValue) → has found r ≡ true → has procedures r ≡ true) →
        ((r : PartValue) × (has (c ∷ found) r ≡ true) × (has procedures r ≡ false))
        ⊎ ((r : PartValue) → has (c ∷ found) r ≡ true → has procedures r ≡ true)
    by_first false is rest = inl (c, or_left (same_part c c) (has found c) (same_itself c), is)
    by_first true is (inl new) = inl (new.0, or_right (same_part new.0 c) (has found new.0) new.1, new.2)
    by_first true is (inr old) = inr (λ r h. elim (or_cases (same_part r c) (has found r) h) [
      | inl same ↦ subst (λ x. has procedures x ≡ true) (sym (same_true r c same)) is
      | inr later ↦ old r later
    ])

-- where none is left that wasn't reached, each was
none_left : (all procedures : List PartValue) (r : PartValue) → unvisited procedures all ≤ 0 → has all r ≡ true →
    has procedures r ≡ true
none_left all procedures r none among = by_test (has procedures r) refl
  where
    by_test : (b : Bool) → has procedures r ≡ b → b ≡ true
    by_test true is = refl
    by_test false is = absurd (omega (arith, none, unvisited_fewer procedures all r is among))

-- with a new one among what is added fewer are left
fewer_left : (all procedures found : List PartValue) (r : PartValue) → has found r ≡ true → has procedures r ≡ false →
    has all r ≡ true → unvisited (procedures ++ found) all + 1 ≤ unvisited procedures all
fewer_left all procedures found r there new among =
    let less = unvisited_fewer procedures all r new among in
    let more = unvisited_no_more (procedures ++ r ∷ []) (procedures ++ found) all
    (λ q h. elim (has_cases procedures (r ∷ []) q h) [
      | inl old ↦ has_left procedures found q old
      | inr last ↦ elim (or_cases (same_part q r) false last) [
        | inl same ↦ has_right procedures found q
            (subst (λ x. has found x ≡ true) (sym (same_true q r same)) there)
        | inr wrong ↦ cc
      ]
    ]) in
    omega (arith, less, more)

-- after as many steps as procedures weren't reached, all are
closed_after : (s : StoreValue) (p : PartValue) (steps : ℕ) (procedures : List PartValue) →
    unvisited procedures (procedures_with p s) ≤ steps → AreClosed s (reached_in s steps procedures)
unfolding reached_in
closed_after s p zero procedures left =
    λ q r at there within is.
    none_left (procedures_with p s) procedures r left (place_in_store s p q r at is)
closed_after s p (suc steps) procedures left =
    let found = flat_map (procedures_in s) procedures in
    elim (which_new found procedures) [
      | inl new ↦ (let from = elements_from s procedures new.0 new.1 in
          let at = place_from s from.0 new.0 0 from.0.len from.2 in
          let fewer = fewer_left (procedures_with p s) procedures found new.0 new.1 new.2
          (place_in_store s p from.0 new.0 at.0 at.2) in
          closed_after s p steps (procedures ++ found) (omega (arith, left, fewer)))
      | inr old ↦ closed_stay s steps (procedures ++ found) (closed_more s procedures
          (λ q r at there within is. old r (element_there s procedures q r at there within is)))
    ]

-- what is reached stays so
reached_stay : (s : StoreValue) (steps : ℕ) (procedures : List PartValue) (q : PartValue) → has procedures q ≡ true →
    has (reached_in s steps procedures) q ≡ true
unfolding reached_in
reached_stay s zero procedures q h = h
reached_stay s (suc steps) procedures q h = reached_stay s steps (procedures ++ flat_map (procedures_in s) procedures) q
    (has_left procedures (flat_map (procedures_in s) procedures) q h)

-- no more weren't reached than there are
unvisited_most : (visits procedures : List PartValue) → unvisited visits procedures ≤ length procedures
unfolding unvisited
unvisited_most visits [] = omega arith
unvisited_most visits (c ∷ procedures) =
    let one : missing (has visits c) ≤ 1 = one_most (has visits c) in
    omega (arith, one, unvisited_most visits procedures)
  where
    one_most : (b : Bool) → missing b ≤ 1
    one_most true = omega arith
    one_most false = omega arith

-- each procedure that the relation reaches is listed
pub reached_whole : (s : StoreValue) (p q : PartValue) → Reaches s p q → has (reached s p) q ≡ true
unfolding reached
reached_whole s p _ here = reached_stay s (length (procedures_with p s)) (p ∷ []) p
    (or_left (same_part p p) false (same_itself p))
reached_whole s p _ (further q r at way within is) =
    closed_after s p (length (procedures_with p s)) (p ∷ []) (unvisited_most (p ∷ []) (procedures_with p s)) q r at
    (reached_whole s p q way) within is

-- what is reached in so many steps, the relation reaches
reached_by : (s : StoreValue) (p : PartValue) (steps : ℕ) (procedures : List PartValue) →
    ((q : PartValue) → has procedures q ≡ true → Reaches s p q) → (q : PartValue) →
    has (reached_in s steps procedures) q ≡ true → Reaches s p q
unfolding reached_in
reached_by s p zero procedures sound q h = sound q h
reached_by s p (suc steps) procedures sound q h =
    reached_by s p steps (procedures ++ flat_map (procedures_in s) procedures)
    (λ r there. elim (has_cases procedures (flat_map (procedures_in s) procedures) r there) [
      | inl old ↦ sound r old
      | inr element ↦ (let from = elements_from s procedures r element in
          let at = place_from s from.0 r 0 from.0.len from.2 in
          further from.0 r at.0 (sound from.0 from.1) (omega (arith, at.1)) at.2)
    ]) q h

-- each procedure that is listed the relation reaches
pub reached_sound : (s : StoreValue) (p q : PartValue) → has (reached s p) q ≡ true → Reaches s p q
unfolding reached
reached_sound s p q h = reached_by s p (length (procedures_with p s)) (p ∷ [])
    (λ r there. elim (or_cases (same_part r p) false there) [
      | inl same ↦ subst (λ x. Reaches s p x) (sym (same_true r p same)) here
      | inr wrong ↦ cc
    ]) q h
