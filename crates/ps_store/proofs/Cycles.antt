-- Objects turned round along a cycle of places.
use Rattle.std.proofs.Common.{◌≡◌, ◌≢◌, ℕ, ◌+◌, ◌-◌, ◌++◌, ◌<◌, ◌≤◌, Bool, true, false, List, length, get_or, set, take}
use Rattle.std.proofs.Common.{drop, replicate, refl, sym, ap, ◌∙◌, subst, ⊎_elim, true≢false, arith, get_or-set_same}
use Rattle.std.proofs.Common.{get_or-set_other}
use Rattle.std.proofs.lemmas.Bool.{cases_eq, cases_lt}
use Rattle.std.proofs.lemmas.List.{get_or_default, get_or-replicate, get_or_past, length-replicate, length-take-le}
use Rattle.std.proofs.lemmas.List.{length-drop, length-append, get_or-take, get_or-drop, get_or_append_left}
use Rattle.std.proofs.lemmas.List.{get_or-append_right, same_lists}
use Rattle.ps_store.specs.declared.obj.Obj.{Obj}
use Rattle.ps_store.specs.Code.Turning.{IsSource, IsSettled, AreClosed, ArePartlyTurned}

-- no two places have one source
one_place : (n k i j m : ℕ) → IsSource n k i m → IsSource n k j m → i < n → j < n → i ≡ j
one_place n k i j m a b first second = grind arith

-- a place has one source
one_source : (n k i j m : ℕ) → IsSource n k i j → IsSource n k i m → j ≡ m
one_source n k i j m a b = grind arith

settled_here : (s : List Bool) (i : ℕ) → i < length s → IsSettled (set s i true) i
settled_here s i within = get_or-set_same s i true false within

-- what was settled stays so
pub settled_still : (s : List Bool) (i j : ℕ) → i < length s → IsSettled s j → IsSettled (set s i true) j
settled_still s i j within h =
    ⊎_elim (λ same. ap (λ m. get_or (set s i true) m false) same ∙ settled_here s i within)
    (λ other. get_or-set_other s i j true false other ∙ h) (cases_eq j i)

settled_before : (s : List Bool) (i j : ℕ) → j ≢ i → IsSettled (set s i true) j → IsSettled s j
settled_before s i j other h = sym (get_or-set_other s i j true false other) ∙ h

not_settled : (b : Bool) → (b ≡ true → ⊥) → b ≡ false
not_settled true h = absurd (h refl)
not_settled false h = refl

-- the walk from start has come to the hole, whose object has moved on, and goes on to its source
pub record IsInCycle (n k start hole next : ℕ) (settled : List Bool) : Type 0 where
  pub within : hole < n
  pub inside : next < n
  pub source : IsSource n k hole next
  pub unsettled : get_or settled hole false ≡ false
  pub closed : (i j : ℕ) → i < n → IsSource n k i j → j ≢ start → IsSettled settled j → IsSettled settled i
  pub passed : (i : ℕ) → i < n → IsSource n k i hole → hole ≢ start → IsSettled settled i
  pub begun : hole ≢ start → IsSettled settled start

-- the source of the hole is not settled, unless it is the start
pub next_waits : (n k start hole next : ℕ) (s : List Bool) → IsInCycle n k start hole next s → next ≢ start →
    get_or s next false ≡ false
next_waits n k start hole next s c on =
    not_settled (get_or s next false) (λ h. true≢false (sym (c.closed hole next c.within c.source on h) ∙ c.unsettled))

next_is_other : (n k start hole next : ℕ) (s : List Bool) → IsInCycle n k start hole next s → next ≢ start → next ≢ hole
next_is_other n k start hole next s c on same =
    true≢false (sym (c.passed hole c.within (subst (IsSource n k hole) same c.source) (λ e. on (same ∙ e)))
    ∙ c.unsettled)

-- the hole is settled, and its source is the next hole
pub goes_on : (n k start hole next then : ℕ) (s : List Bool) → IsInCycle n k start hole next s → n ≤ length s →
    next ≢ start → then < n → IsSource n k next then → IsInCycle n k start next then (set s hole true)
goes_on n k start hole next then s c long on inside source =
    let room : hole < length s = omega (arith, c.within) in record {
      within = c.inside;
      inside = inside;
      source = source;
      unsettled = get_or-set_other s hole next true false (next_is_other n k start hole next s c on)
          ∙ next_waits n k start hole next s c on;
      closed = λ i j w src ne h. settled_still s hole i room (⊎_elim
          (λ same. c.passed i w (subst (IsSource n k i) same src) (λ e. ne (same ∙ e)))
          (λ other. c.closed i j w src ne (settled_before s hole j other h)) (cases_eq j hole));
      passed = λ i w src ne. let same : i ≡ hole = one_place n k i hole next src c.source w c.within in
          ap (λ m. get_or (set s hole true) m false) same ∙ settled_here s hole room;
      begun = λ ne. ⊎_elim
          (λ same. ap (λ m. get_or (set s hole true) m false) (sym same) ∙ settled_here s hole room)
          (λ other. settled_still s hole start room (c.begun other)) (cases_eq hole start);
    }

-- the hole takes the object of its source
pub takes : (n k : ℕ) (before now : List Obj) (s : List Bool) (hole next : ℕ) (o : Obj) → hole < n → n ≤ length s →
    n ≤ length now → IsSource n k hole next → ((d : Obj) → o ≡ get_or before next d) →
    ArePartlyTurned n k before s now → ArePartlyTurned n k before (set s hole true) (set now hole o)
takes n k before now s hole next o within long wide source is p =
    let room : hole < length s = omega arith in
    let seat : hole < length now = omega arith in record {
      placed = λ i j d w src h. ⊎_elim
          (λ same. ap (λ m. get_or (set now hole o) m d) same
          ∙ (get_or-set_same now hole o d seat ∙ (is d
          ∙ ap (λ m. get_or before m d) (one_source n k hole next j source
          (subst (λ m. IsSource n k m j) same src)))))
          (λ other. get_or-set_other now hole i o d other ∙ p.placed i j d w src (settled_before s hole i other h))
          (cases_eq i hole);
      waiting = λ i d w h. ⊎_elim
          (λ same. absurd (true≢false (sym (ap (λ m. get_or (set s hole true) m false) same ∙ settled_here s hole room)
          ∙ h)))
          (λ other. get_or-set_other now hole i o d other
          ∙ p.waiting i d w (sym (get_or-set_other s hole i true false other) ∙ h)) (cases_eq i hole);
    }

-- an object that was read from a place that waits
pub read : (n k : ℕ) (before now : List Obj) (s : List Bool) (i : ℕ) (o : Obj) → i < n → n ≤ length now →
    o ≡ get_or now i o → get_or s i false ≡ false → ArePartlyTurned n k before s now → (d : Obj) → o ≡ get_or before i d
read n k before now s i o within wide is waits p d = is
    ∙ (get_or_default now i o d (omega arith) ∙ p.waiting i d within waits)

unset : (m j : ℕ) → get_or (replicate m false) j false ≡ false
unset m j = ⊎_elim (λ (w : j < m). get_or-replicate m j false false w)
    (λ (h : m ≤ j). get_or_past (replicate m false) j false (omega (arith, length-replicate m false))) (cases_lt j m)

-- before the first cycle each place holds its old object
pub none_placed : (n k m : ℕ) (before : List Obj) → n ≤ m → ArePartlyTurned n k before (replicate m false) before
none_placed n k m before long = record {
  placed = λ i j d w src h. absurd (true≢false (sym h ∙ get_or-replicate m i false false (omega arith)));
  waiting = λ i d w h. refl;
}

-- before the first cycle no place is settled
pub none_settled : (n k m : ℕ) → n ≤ m → AreClosed n k (replicate m false)
none_settled n k m long = λ i j w src h. absurd (true≢false (sym h ∙ unset m j))

-- a place of the turned list, before and behind the seam
ahead : (k : ℕ) (xs : List Obj) (i : ℕ) (d : Obj) → i + k < length xs →
    get_or xs (i + k) d ≡ get_or (drop k xs ++ take k xs) i d
ahead k xs i d within =
    ap (λ m. get_or xs m d) (let e : i + k ≡ k + i = omega arith in e)
    ∙ (sym (get_or-drop k xs i d) ∙ sym (get_or_append_left (drop k xs) (take k xs) d i
    (omega (arith, length-drop k xs))))

round : (k : ℕ) (xs : List Obj) (i : ℕ) (d : Obj) → k ≤ length xs → i < length xs → length xs ≤ i + k →
    get_or xs (i + k - length xs) d ≡ get_or (drop k xs ++ take k xs) i d
round k xs i d part within past =
    let place = i - length (drop k xs) in
    let size = length-drop k xs in
    ap (λ m. get_or xs m d) (let e : i + k - length xs ≡ place = omega (arith, size) in e)
    ∙ (sym (get_or-take k xs place d (omega (arith, size)))
    ∙ sym (get_or-append_right (drop k xs) (take k xs) (length (drop k xs)) i d refl (omega (arith, size))))

-- once each place is settled the list is turned round
pub all_placed : (k : ℕ) (before now : List Obj) (s : List Bool) → k ≤ length before → length now ≡ length before →
    ((i : ℕ) → i < length before → IsSettled s i) → ArePartlyTurned (length before) k before s now → now ≡ drop k before
    ++ take k before
all_placed k before now s part long all p =
    same_lists now (drop k before ++ take k before)
    (omega (
      arith,
      long,
      length-append (drop k before) (take k before),
      length-drop k before,
      length-take-le k before part,
    )) (λ i d w. ⊎_elim
    (λ (near : i + k < length before). p.placed i (i + k) d (omega arith)
    (record { ahead = λ _. refl; round = λ h. absurd (omega arith) }) (all i (omega arith))
    ∙ ahead k before i d near)
    (λ (far : length before ≤ i + k). p.placed i (i + k - length before) d (omega arith)
    (record { ahead = λ h. absurd (omega arith); round = λ h. omega arith }) (all i (omega arith))
    ∙ round k before i d part (omega arith) far)
    (cases_lt (i + k) (length before)))
