-- The procedures that were reached, one by one.
use Rattle.std.proofs.Common.{◌≡◌, ◌≤◌, ◌+◌, ◌++◌, ◌⊎◌, inl, inr, length, take, Bool, true, false}
use Rattle.std.proofs.Common.{if◌then◌else◌, ℕ, zero, suc, List, [], ◌∷◌, Some, refl, ◌∙◌, sym, subst}
use Rattle.std.proofs.Common.{arith}
use Rattle.std.proofs.lemmas.List.{length_push, take-append-le}
use Rattle.std.specs.List.{slice_get}
use Rattle.ps_store.specs.Parts.{PartValue}
use Rattle.ps_flow.specs.Binding.{has, same_part}
use Rattle.ps_flow.specs.Code.Visits.{missing, unvisited, with_visit, with_visits}
use Rattle.ps_flow.proofs.ReachLemmas.{or_left, or_right, or_cases, same_true, same_itself, has_left, has_right}
use Rattle.ps_flow.proofs.ReachLemmas.{has_cases}

-- one procedure more: what was there stays
pub one_old : (b : Bool) (visits : List PartValue) (r q : PartValue) → has visits q ≡ true →
    has (if b then visits else visits ++ r ∷ []) q ≡ true
one_old true visits r q h = h
one_old false visits r q h = has_left visits (r ∷ []) q h

-- and it is there
pub one_new : (b : Bool) (visits : List PartValue) (r : PartValue) → has visits r ≡ b →
    has (if b then visits else visits ++ r ∷ []) r ≡ true
one_new true visits r h = h
one_new false visits r h = has_right visits (r ∷ []) r (or_left (same_part r r) false (same_itself r))

one_cases : (b : Bool) (visits : List PartValue) (r q : PartValue) →
    has (if b then visits else visits ++ r ∷ []) q ≡ true → (has visits q ≡ true) ⊎ (q ≡ r)
one_cases true visits r q h = inl h
one_cases false visits r q h = elim (has_cases visits (r ∷ []) q h) [
  | inl old ↦ inl old
  | inr new ↦ elim (or_cases (same_part q r) false new) [ inl same ↦ inr (same_true q r same) | inr wrong ↦ cc ]
]

one_front : (b : Bool) (visits : List PartValue) (r : PartValue) (n : ℕ) → n ≤ length visits →
    take n (if b then visits else visits ++ r ∷ []) ≡ take n visits
one_front true visits r n h = refl
one_front false visits r n h = take-append-le n visits (r ∷ []) h

one_longer : (b : Bool) (visits : List PartValue) (r : PartValue) →
    length visits ≤ length (if b then visits else visits ++ r ∷ [])
one_longer true visits r = omega arith
one_longer false visits r = omega (arith, length_push visits r)

-- each of these
pub visits_old : (procedures visits : List PartValue) (q : PartValue) → has visits q ≡ true →
    has (with_visits visits procedures) q ≡ true
unfolding with_visits
visits_old [] visits q h = h
visits_old (r ∷ procedures) visits q h =
    visits_old procedures (with_visit visits r) q (one_old (has visits r) visits r q h)

pub visits_new : (procedures visits : List PartValue) (q : PartValue) → has procedures q ≡ true →
    has (with_visits visits procedures) q ≡ true
unfolding with_visits
visits_new [] visits q h = cc
visits_new (r ∷ procedures) visits q h = elim (or_cases (same_part q r) (has procedures q) h) [
  | inl same ↦ visits_old procedures (with_visit visits r) q
      (subst (λ x. has (with_visit visits r) x ≡ true) (sym (same_true q r same))
      (one_new (has visits r) visits r refl))
  | inr later ↦ visits_new procedures (with_visit visits r) q later
]

-- what is reached was so before, or is one of these
pub visits_cases : (procedures visits : List PartValue) (q : PartValue) → has (with_visits visits procedures) q ≡ true →
    (has visits q ≡ true) ⊎ (has procedures q ≡ true)
unfolding with_visits
visits_cases [] visits q h = inl h
visits_cases (r ∷ procedures) visits q h = elim (visits_cases procedures (with_visit visits r) q h) [
  | inl before ↦ elim (one_cases (has visits r) visits r q before) [
    | inl old ↦ inl old
    | inr is ↦ inr (or_left (same_part q r) (has procedures q) (subst (λ x. same_part q x ≡ true) is (same_itself q)))
  ]
  | inr later ↦ inr (or_right (same_part q r) (has procedures q) later)
]

-- no fewer are reached
pub visits_longer : (procedures visits : List PartValue) → length visits ≤ length (with_visits visits procedures)
unfolding with_visits
visits_longer [] visits = omega arith
visits_longer (r ∷ procedures) visits =
    let one : length visits ≤ length (with_visit visits r) = one_longer (has visits r) visits r in
    let rest : length (with_visit visits r) ≤ length (with_visits (with_visit visits r) procedures) =
    visits_longer procedures (with_visit visits r) in
    omega (arith, one, rest)

-- the first that were reached stay the first
pub visits_front : (procedures visits : List PartValue) (n : ℕ) → n ≤ length visits →
    take n (with_visits visits procedures) ≡ take n visits
unfolding with_visits
visits_front [] visits n h = refl
visits_front (r ∷ procedures) visits n h =
    let longer : length visits ≤ length (with_visit visits r) = one_longer (has visits r) visits r in
    visits_front procedures (with_visit visits r) n (omega (arith, h, longer)) ∙ one_front (has visits r) visits r n h

-- how many weren't reached yet
fewer_missing : (a b : Bool) → (a ≡ true → b ≡ true) → missing (b) ≤ missing (a)
fewer_missing true true h = omega arith
fewer_missing true false h = let no : false ≡ true = h refl in cc
fewer_missing false true h = omega arith
fewer_missing false false h = omega arith

-- no more weren't reached yet where more were
pub unvisited_no_more : (visits more procedures : List PartValue) →
    ((q : PartValue) → has visits q ≡ true → has more q ≡ true)
    → unvisited more procedures ≤ unvisited visits procedures
unfolding unvisited
unvisited_no_more visits more [] stay = omega arith
unvisited_no_more visits more (c ∷ procedures) stay =
    let here_ : missing (has more c) ≤ missing (has visits c) =
    fewer_missing (has visits c) (has more c) (stay c) in
    let rest : unvisited more procedures ≤ unvisited visits procedures =
    unvisited_no_more visits more procedures stay in
    omega (arith, here_, rest)

missing_true : (b : Bool) → b ≡ true → missing (b) ≡ 0
missing_true true h = refl
missing_true false h = cc

missing_false : (b : Bool) → b ≡ false → missing (b) ≡ 1
missing_false true h = cc
missing_false false h = refl

-- one fewer where one of them is reached that wasn't
pub unvisited_fewer : (visits procedures : List PartValue) (r : PartValue) → has visits r ≡ false →
    has procedures r ≡ true → unvisited (visits ++ r ∷ []) procedures + 1 ≤ unvisited visits procedures
unfolding unvisited
unvisited_fewer visits [] r new among = cc
unvisited_fewer visits (c ∷ procedures) r new among = elim (or_cases (same_part r c) (has procedures r) among) [
  | inl same ↦ (let e : r ≡ c = same_true r c same in
      let before : missing (has visits c) ≡ 1 =
      missing_false (has visits c) (subst (λ x. has visits x ≡ false) e new) in
      let there : has (visits ++ r ∷ []) c ≡ true =
      has_right visits (r ∷ []) c (or_left (same_part c r) false
      (subst (λ x. same_part c x ≡ true) (sym e) (same_itself c))) in
      let after : missing (has (visits ++ r ∷ []) c) ≡ 0 = missing_true (has (visits ++ r ∷ []) c) there in
      let rest : unvisited (visits ++ r ∷ []) procedures ≤ unvisited visits procedures =
      unvisited_no_more visits (visits ++ r ∷ []) procedures (has_left visits (r ∷ [])) in
      omega (arith, before, after, rest))
  | inr later ↦ (let one : missing (has (visits ++ r ∷ []) c) ≤ missing (has visits c) =
      fewer_missing (has visits c) (has (visits ++ r ∷ []) c) (has_left visits (r ∷ []) c) in
      let rest : unvisited (visits ++ r ∷ []) procedures + 1 ≤ unvisited visits procedures =
      unvisited_fewer visits procedures r new later in
      omega (arith, one, rest))
]

one_measure : (b : Bool) (visits procedures : List PartValue) (r : PartValue) → has visits r ≡ b →
    has procedures r ≡ true
    → unvisited (if b then visits else visits ++ r ∷ []) procedures + length (if b then visits else visits ++ r ∷ [])
    ≤ unvisited visits procedures + length visits
one_measure true visits procedures r is among = omega arith
one_measure false visits procedures r is among =
    omega (arith, unvisited_fewer visits procedures r is among, length_push visits r)

-- with these no more is left: what is reached and what is not yet, as a sum, doesn't grow
pub visits_measure : (added visits procedures : List PartValue) →
    ((r : PartValue) → has added r ≡ true → has procedures r ≡ true)
    → unvisited (with_visits visits added) procedures + length (with_visits visits added) ≤ unvisited visits procedures
    + length visits
unfolding with_visits
visits_measure [] visits procedures among = omega arith
visits_measure (r ∷ added) visits procedures among =
    let one : unvisited (with_visit visits r) procedures + length (with_visit visits r) ≤ unvisited visits procedures
    + length visits =
    one_measure (has visits r) visits procedures r refl
    (among r (or_left (same_part r r) (has added r) (same_itself r))) in
    let rest : unvisited (with_visits (with_visit visits r) added) procedures
    + length (with_visits (with_visit visits r) added) ≤ unvisited (with_visit visits r) procedures
    + length (with_visit visits r) =
    visits_measure added (with_visit visits r) procedures (λ x h. among x (or_right (same_part x r) (has added x) h)) in
    omega (arith, one, rest)

-- the procedure at a place is there
pub at_place : (visits : List PartValue) (place : ℕ) (q : PartValue) → slice_get visits place ≡ Some q →
    has visits q ≡ true
at_place [] place q h = cc
at_place (p ∷ visits) zero q h = or_left (same_part q p) (has visits q)
    (let e : p ≡ q = cc in subst (λ x. same_part q x ≡ true) (sym e) (same_itself q))
at_place (p ∷ visits) (suc place) q h = or_right (same_part q p) (has visits q) (at_place visits place q h)
