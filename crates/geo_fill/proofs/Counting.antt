-- The winding number by crossings that are added, put in order and counted.
use Rattle.std.proofs.Common.{◌≡◌, ◌∙◌, ap, sym, refl, subst, ℕ, add-one, ◌+◌, ◌<◌, ◌≤◌, Bool, true, false, not, cond}
use Rattle.std.proofs.Common.{◌&&◌, List, [], ◌∷◌, ◌++◌, length, get_or, drop, map, ℤ, pos, negsuc, ◌+ℤ◌, arith}
use Rattle.std.specs.Prelude.{nat_le, ◌-ℤ◌, if◌then◌else◌}
use Rattle.std.specs.List.{All, sum_by}
use Rattle.std.specs.List.Sorted.{IsPermutation, IsNonDecreasingBy}
use Rattle.std.proofs.lemmas.Bool.{lt-leb, le-leb}
use Rattle.std.proofs.lemmas.List.{drop_more}
use Rattle.std.proofs.lemmas.List.Sums.{sum_by-cons}
use Rattle.std.proofs.lemmas.List.Sorted.{sum_by-IsPermutation, All-permutation}
use Rattle.std.proofs.lemmas.Int.{ints}
use Rattle.press_nums.proofs.Sums.{sum_cons, sum_push}
use Rattle.geo_fill.specs.declared.crossing.Crossing.{Crossing}
use Rattle.geo_fill.specs.Code.Crossings.{whole_turn, turn_at, winding_by, IsOfRange}
use Rattle.geo_fill.specs.Code.Steps.{AreAdded, AreInOrder, AreCounted}

winding-cons : (col : ℕ) (c : Crossing) (rest : List Crossing) →
    winding_by col (c ∷ rest) ≡ (turn_at col c +ℤ winding_by col rest)
winding-cons col c rest = sum_cons (turn_at col c) (map (turn_at col) rest)

-- one crossing more, at the end
pub winding_push : (col : ℕ) (old : List Crossing) (c : Crossing) →
    winding_by col (old ++ c ∷ []) ≡ (winding_by col old +ℤ turn_at col c)
winding_push col old c = sum_push (turn_at col) old c

-- how many rise, and how many fall, at a column or left of it
rise_at : ℕ → Crossing → ℕ
rise_at col c = cond (c.rises && nat_le c.col col) 1 0

fall_at : ℕ → Crossing → ℕ
fall_at col c = cond (not c.rises && nat_le c.col col) 1 0

turn_counts : (b r : Bool) → (if b then (if r then pos 1 else negsuc 0) else pos 0)
    ≡ (pos (cond (r && b) 1 0) -ℤ pos (cond (not r && b) 1 0))
turn_counts true true = refl
turn_counts true false = refl
turn_counts false true = refl
turn_counts false false = refl

winding_counts : (col : ℕ) (cs : List Crossing) →
    winding_by col cs ≡ (pos (sum_by (rise_at col) cs) -ℤ pos (sum_by (fall_at col) cs))
unfolding rise_at fall_at
winding_counts col [] = refl
winding_counts col (c ∷ rest) =
    let whole = winding-cons col c rest in
    let here = turn_counts (nat_le c.col col) c.rises in
    let others = winding_counts col rest in
    let rises = sum_by-cons (rise_at col) c rest in
    let falls = sum_by-cons (fall_at col) c rest in
    omega (arith, ints, whole, here, others, rises, falls)

-- the order of crossings doesn't matter
pub winding_permuted : (col : ℕ) (cs ds : List Crossing) → IsPermutation cs ds → winding_by col ds ≡ winding_by col cs
winding_permuted col cs ds moved =
    let rises = sum_by-IsPermutation (rise_at col) cs ds moved in
    let falls = sum_by-IsPermutation (fall_at col) cs ds moved in
    winding_counts col ds ∙ (ap (λ n. pos n -ℤ pos (sum_by (fall_at col) ds)) rises
    ∙ (ap (λ n. pos (sum_by (rise_at col) cs) -ℤ pos n) falls ∙ sym (winding_counts col cs)))

-- crossings right of a column add nothing there
none_by : (at col : ℕ) (cs : List Crossing) → AreInOrder at cs → col < at → winding_by col cs ≡ pos 0
none_by at col [] order less = refl
none_by at col (c ∷ rest) (begins, order) less =
    let here : turn_at col c ≡ pos 0 = ap (λ b. if b then whole_turn c else pos 0) (lt-leb c.col col (omega arith)) in
    let others = none_by c.col col rest order (omega arith) in
    let whole = winding-cons col c rest in
    omega (arith, ints, here, others, whole)

-- nothing is counted yet
pub none_counted : (from : ℕ) (cs : List Crossing) → AreInOrder from cs → AreCounted from (pos 0) cs cs
none_counted from cs order = record {
  order = order;
  turns = λ col late. omega (arith, ints);
}

-- between two crossings the winding number stays
pub still_counted : (at : ℕ) (before : ℤ) (c : Crossing) (rest cs : List Crossing) (col : ℕ) →
    AreCounted at before (c ∷ rest) cs → at ≤ col → col < c.col → winding_by col cs ≡ before
still_counted at before c rest cs col counted late less =
    let here = counted.turns col late in
    let none : winding_by col (c ∷ rest) ≡ pos 0 = none_by c.col col (c ∷ rest) (omega arith, counted.order.1) less in
    omega (arith, ints, here, none)

-- behind the last crossing too
pub all_counted : (at : ℕ) (before : ℤ) (cs : List Crossing) (col : ℕ) → AreCounted at before [] cs → at ≤ col →
    winding_by col cs ≡ before
all_counted at before cs col counted late = let here = counted.turns col late in omega (arith, ints, here)

-- one crossing more is counted
pub one_counted : (at : ℕ) (before : ℤ) (c : Crossing) (rest cs : List Crossing) → AreCounted at before (c ∷ rest) cs →
    AreCounted c.col (before +ℤ whole_turn c) rest cs
one_counted at before c rest cs counted = record {
  order = counted.order.1;
  turns = λ col late.
      let whole = counted.turns col (omega (arith, counted.order.0)) in
      let split = winding-cons col c rest in
      let here : turn_at col c ≡ whole_turn c = ap (λ b. if b then whole_turn c else pos 0) (le-leb c.col col late) in
      omega (arith, ints, whole, split, here);
}

-- the same, for a crossing that is read from the list
first_of_rest : (i : ℕ) (d : Crossing) (at : ℕ) (before : ℤ) (cs : List Crossing) → i < length cs →
    AreCounted at before (drop i cs) cs → AreCounted at before (get_or cs i d ∷ drop (i + 1) cs) cs
first_of_rest i d at before cs inside counted =
    subst (λ (rest : List Crossing). AreCounted at before rest cs) (drop_more cs i d inside) counted

-- the next crossing of the list begins at the column that was reached, or later
pub next_begins : (i : ℕ) (d : Crossing) (at : ℕ) (before : ℤ) (cs : List Crossing) → i < length cs →
    AreCounted at before (drop i cs) cs → at ≤ (get_or cs i d).col
next_begins i d at before cs inside counted = (first_of_rest i d at before cs inside counted).order.0

-- before the next crossing of the list the winding number stays
pub still_before_next : (i : ℕ) (d : Crossing) (at : ℕ) (before : ℤ) (cs : List Crossing) (col : ℕ) → i < length cs →
    AreCounted at before (drop i cs) cs → at ≤ col → col < (get_or cs i d).col → winding_by col cs ≡ before
still_before_next i d at before cs col inside counted late less =
    still_counted at before (get_or cs i d) (drop (i + 1) cs) cs col
    (first_of_rest i d at before cs inside counted) late less

-- with the next crossing of the list counted, the winding number is the one before and that crossing's turn
pub next_counted : (i : ℕ) (d : Crossing) (at : ℕ) (before turn after : ℤ) (cs : List Crossing) → i < length cs →
    AreCounted at before (drop i cs) cs → turn ≡ whole_turn (get_or cs i d) → after ≡ (before +ℤ turn) →
    AreCounted (get_or cs i d).col after (drop (i + 1) cs) cs
next_counted i d at before turn after cs inside counted is sum =
    subst (λ z. AreCounted (get_or cs i d).col z (drop (i + 1) cs) cs) (ap (λ z. before +ℤ z) (sym is) ∙ sym sum)
    (one_counted at before (get_or cs i d) (drop (i + 1) cs) cs (first_of_rest i d at before cs inside counted))

at_first : (c : Crossing) (rest : List Crossing) (d : Crossing) → get_or (c ∷ rest) 0 d ≡ c
at_first c rest d = refl

at_later : (c : Crossing) (rest : List Crossing) (k : ℕ) (d : Crossing) → get_or (c ∷ rest) (k + 1) d ≡ get_or rest k d
at_later c rest k d = rw add-one refl

-- crossings whose columns do not fall, from a column on
pub in_order : (from : ℕ) (cs : List Crossing) → All (λ (c : Crossing). from ≤ c.col) cs →
    IsNonDecreasingBy (λ (c : Crossing). c.col) cs → AreInOrder from cs
in_order from [] least sorted = tt
in_order from (c ∷ rest) least sorted = (
  subst (λ (x : Crossing). from ≤ x.col) (at_first c rest c) (least 0 c (omega arith)),
  in_order c.col rest
      (λ k d less. subst (λ (x : Crossing). c.col ≤ x.col) (at_later c rest k d)
      (subst (λ (x : Crossing). x.col ≤ (get_or (c ∷ rest) (k + 1) d).col) (at_first c rest d)
      (sorted 0 (k + 1) d (omega arith) (omega arith))))
      (λ i j d le less. subst (λ (x : Crossing). (get_or rest i d).col ≤ x.col) (at_later c rest j d)
      (subst (λ (x : Crossing). x.col ≤ (get_or (c ∷ rest) (j + 1) d).col) (at_later c rest i d)
      (sorted (i + 1) (j + 1) d (omega arith) (omega arith)))),
)

-- what was added to no crossings is of the range, in any order
pub all_of_range : (from to : ℕ) (old added sorted : List Crossing) (turn : ℕ → ℤ) → old ≡ [] →
    AreAdded from to old added turn → IsPermutation added sorted → All (IsOfRange from to) sorted
all_of_range from to old added sorted turn none is moved =
    All-permutation (IsOfRange from to) added sorted moved
    (is.range (subst (λ (cs : List Crossing). All (IsOfRange from to) cs) (sym none)
    (λ k d less. absurd (omega arith))))
