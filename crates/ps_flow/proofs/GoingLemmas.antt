-- The procedures that were reached, and the places that were looked at, one procedure after the other.
use Rattle.std.proofs.Common.{◌≡◌, ◌≤◌, ◌<◌, ◌+◌, ◌-◌, ◌++◌, inl, inr, length, take, true, false, ℕ, List, []}
use Rattle.std.proofs.Common.{◌∷◌, Some, None, ap, ◌∙◌, sym, subst, arith, nat_eq, nat_le, nat_lt}
use Rattle.std.proofs.Math.Seq.{take-length}
use Rattle.std.proofs.lemmas.Bool.{eqb-true, leb-true, ltb-true}
use Rattle.std.proofs.lemmas.List.{take_more}
use Rattle.std.proofs.lemmas.Option.{get_or_from_slice_get, slice_get_cases, slice_get_within}
use Rattle.std.specs.List.{slice_get}
use Rattle.std.specs.Map.{keys_of}
use Rattle.ps_store.specs.Parts.{PartValue}
use Rattle.ps_store.specs.Store.{StoreValue}
use Rattle.ps_flow.specs.Binding.{Reaches, here, further, covers, has, procedures_with, same_part}
use Rattle.ps_flow.specs.Code.Places.{AreAdded, AreFound, AreSeen, IsDone, is_seen, nothing_in_hand, place_of}
use Rattle.ps_flow.specs.Code.Visits.{unvisited, with_visit}
use Rattle.ps_flow.proofs.BindLemmas.{any_has, has_any, same_test}
use Rattle.ps_flow.proofs.PlaceLemmas.{covered_by, seen_first}
use Rattle.ps_flow.proofs.ReachLemmas.{and_parts, has_cases, or_cases, or_left, place_from, reached_in_store}
use Rattle.ps_flow.proofs.ReachLemmas.{same_itself, same_true}
use Rattle.ps_flow.proofs.VisitLemmas.{at_place, visits_cases, visits_front, visits_longer, visits_measure, visits_old}

-- all of them are reached, and all places of those before a number were looked at
pub record IsGoing (s : StoreValue) (p : PartValue) (visits : List PartValue) (seen : List (PartValue × ℕ))
    (number : ℕ) : Type 0 where
  pub sound : (q : PartValue) → has visits q ≡ true → Reaches s p q
  pub first : has visits p ≡ true
  pub seen_ : AreSeen s visits seen nothing_in_hand 0
  pub done : (q : PartValue) → has (take number visits) q ≡ true → IsDone seen q
  pub within : number ≤ length visits

-- the first procedure alone
pub going_first : (s : StoreValue) (p : PartValue) → IsGoing s p (with_visit [] p) [] 0
going_first s p = record {
  sound = λ q h. elim (or_cases (same_part q p) false h) [
    | inl same ↦
        subst (λ x. Reaches s p x) (sym (same_true q p same)) here
    | inr wrong ↦ cc
  ];
  first = or_left (same_part p p) false (same_itself p);
  seen_ = seen_first s (with_visit [] p);
  done = λ q h. cc;
  within = omega arith;
}

-- the next procedure is done
pub going_more : (s : StoreValue) (p : PartValue) (visits visits' : List PartValue) (seen seen' : List (PartValue × ℕ))
    (number : ℕ) (q : PartValue) → IsGoing s p visits seen number → slice_get visits number ≡ Some q →
    AreSeen s visits' seen' nothing_in_hand 0 → IsDone seen' q →
    ((id k : ℕ) → is_seen seen id k ≡ true → is_seen seen' id k ≡ true) → AreAdded s q visits visits' →
    IsGoing s p visits' seen' (number + 1)
going_more s p visits visits' seen seen' number q going is are done kept more =
    let added = more.added in
    let inside : number < length visits = slice_get_within visits number q is in
    let enough : number + 1 ≤ length visits = omega (arith, inside) in
    let front : take (number + 1) visits' ≡ take number visits ++ q ∷ [] =
    ap (take (number + 1)) more.is ∙ (visits_front added visits (number + 1) enough
    ∙ (take_more visits number q inside ∙ ap (λ x. take number visits ++ x ∷ [])
    (get_or_from_slice_get visits number q q is))) in
    record {
      sound = λ r h. elim (visits_cases added visits r (ap (λ v. has v r) (sym more.is) ∙ h)) [
        | inl old ↦ going.sound r old
        | inr new ↦ (let at = place_from s q r 0 q.len (more.among r new) in
            further q r at.0 (going.sound q (at_place visits number q is)) (omega (arith, at.1)) at.2)
      ];
      first = ap (λ v. has v p) more.is ∙ visits_old added visits p going.first;
      seen_ = are;
      done = λ x h. elim (has_cases (take number visits) (q ∷ []) x (ap (λ v. has v x) (sym front) ∙ h)) [
        | inl before ↦ (λ k low high. kept x.id k (going.done x before k low high))
        | inr last ↦ elim (or_cases (same_part x q) false last) [
          | inl same ↦ subst (λ y. IsDone seen' y) (sym (same_true x q same)) done
          | inr wrong ↦ cc
        ]
      ];
      within = omega (arith, enough, visits_longer added visits, ap length more.is);
    }

-- fewer are left
pub going_fewer : (s : StoreValue) (p : PartValue) (visits visits' : List PartValue) (seen : List (PartValue × ℕ))
    (number : ℕ) (q : PartValue) → IsGoing s p visits seen number → slice_get visits number ≡ Some q →
    AreAdded s q visits visits'
    → unvisited visits' (procedures_with p s) + length visits' - (number + 1)
    < unvisited visits (procedures_with p s) + length visits - number
going_fewer s p visits visits' seen number q going is more =
    let inside : number < length visits = slice_get_within visits number q is in
    let less = visits_measure more.added visits (procedures_with p s)
    (λ r h. (let at = place_from s q r 0 q.len (more.among r h) in
    reached_in_store s p r (further q r at.0 (going.sound q (at_place visits number q is))
    (omega (arith, at.1)) at.2))) in
    let longer = visits_longer more.added visits in
    let left = unvisited visits (procedures_with p s) + length visits - number in
    subst (λ v. unvisited v (procedures_with p s) + length v - (number + 1) < left) (sym more.is)
    (omega (arith, inside, less, longer))

-- a place that is covered by one place is that place
one_place : (q : PartValue) (id k : ℕ) → q.len ≡ 1 → covers q id k ≡ true → q ≡ place_of id k
one_place q id k single h =
    let outer = and_parts (nat_eq q.id id) _ h in
    let inner = and_parts (nat_le q.start k) (nat_lt k (q.start + q.len)) outer.1 in
    let low : q.start ≤ k = leb-true q.start k inner.0 in
    let high : k < q.start + q.len = ltb-true k (q.start + q.len) inner.1 in
    let same_id : q.id ≡ id = eqb-true q.id id outer.0 in
    let same_start : q.start ≡ k = omega (arith, low, high, single) in
    λ t. record { id = same_id t; start = same_start t; len = single t }

-- the number of the composite and the place of what is covered
covered_id : (q : PartValue) (id k : ℕ) → covers q id k ≡ true → q.id ≡ id
covered_id q id k h = let outer = and_parts (nat_eq q.id id) _ h in eqb-true q.id id outer.0

covered_low : (q : PartValue) (id k : ℕ) → covers q id k ≡ true → q.start ≤ k
covered_low q id k h =
    let outer = and_parts (nat_eq q.id id) _ h in
    let inner = and_parts (nat_le q.start k) (nat_lt k (q.start + q.len)) outer.1 in leb-true q.start k inner.0

covered_high : (q : PartValue) (id k : ℕ) → covers q id k ≡ true → k < q.start + q.len
covered_high q id k h =
    let outer = and_parts (nat_eq q.id id) _ h in
    let inner = and_parts (nat_le q.start k) (nat_lt k (q.start + q.len)) outer.1 in
    ltb-true k (q.start + q.len) inner.1

-- all procedures are done
pub going_all : (s : StoreValue) (p : PartValue) (visits : List PartValue) (seen : List (PartValue × ℕ)) (number : ℕ) →
    IsGoing s p visits seen number → slice_get visits number ≡ None → AreFound s p seen
going_all s p visits seen number going none =
    let past : length visits ≤ number = elim (slice_get_cases visits number).1 [
      | inl found ↦
          (let at = found.2 in cc)
      | inr past ↦ past.0
    ] in
    let whole : number ≡ length visits = (let w = going.within in omega (arith, past, w)) in
    let done : (q : PartValue) → has visits q ≡ true → IsDone seen q =
    λ q h. going.done q (ap (λ v. has v q) (ap (λ n. take n visits) whole ∙ take-length visits) ∙ h) in
    record {
      visits = visits;
      reached = record {
        sound = going.sound;
        first = going.first;
        closed = λ q r at h within is. going.seen_.closed q.id (q.start + at) r
            (done q h (q.start + at) (omega arith) (omega (arith, within))) is;
      };
      places = λ id k. same_test _ _
          (λ h. let found = any_has (λ q. covers q id k) (keys_of seen) h in
          going.seen_.sound id k (subst (λ x. has (keys_of seen) x ≡ true)
          (one_place found.0 id k (going.seen_.single found.0 found.1) found.2) found.1))
          (λ h. let found = any_has (λ q. covers q id k) visits h in
          let there : is_seen seen found.0.id k ≡ true =
          done found.0 found.1 k (covered_low found.0 id k found.2) (covered_high found.0 id k found.2) in
          has_any (λ q. covers q id k) (keys_of seen) (place_of id k)
          (subst (λ x. is_seen seen x k ≡ true) (covered_id found.0 id k found.2) there)
          (covered_by (place_of id k) k (omega arith) (omega arith)));
    }
