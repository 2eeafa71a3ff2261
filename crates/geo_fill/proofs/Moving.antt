-- How an edge's place moves from row to row.
use Rattle.std.proofs.Common.{◌≡◌, ◌∙◌, ap, sym, subst, refl, ℕ, ◌+◌, ◌*◌, ◌^◌, ◌<◌, ◌≤◌, inl, inr, Bool, true, false}
use Rattle.std.proofs.Common.{◌&&◌, arith}
use Rattle.std.specs.Prelude.{ℤ, pos, negsuc, ◌*ℤ◌, ◌+ℤ◌, ◌-ℤ◌, unsigned_abs, int_le, nat_le, if◌then◌else◌}
use Rattle.std.proofs.lemmas.Int.{ints}
use Rattle.std.proofs.lemmas.Bool.{cases_lt, le-leb, lt-leb}
use Rattle.std.proofs.Math.Nat.{mul-le-mul_left}
use Rattle.press_nums.proofs.Products.{over_sum, once_more, not_yet}
use Rattle.geo_fill.specs.declared.edge.Edge.{Edge}
use Rattle.geo_fill.specs.Walk.{reach_in, turn_in, edge_turn, IsEdge}
use Rattle.geo_fill.specs.Code.WalkSteps.{IsNextOf}

-- the place in the edge's own row
none_on : (row : ℕ) → (pos row -ℤ pos row) ≡ pos 0
none_on row = omega (arith, ints)

pub reach_here : (e : Edge) → reach_in e.row e ≡ (pos e.span *ℤ e.col -ℤ pos e.over)
unfolding reach_in
reach_here e = not_yet (pos e.span *ℤ e.col -ℤ pos e.over) (pos e.span *ℤ e.step +ℤ pos e.part) (pos e.row -ℤ pos e.row)
    (none_on e.row)

-- a quotient whose product is near
pub near_by : (span over : ℕ) (col : ℤ) → over < span → unsigned_abs (pos span *ℤ col -ℤ pos over) ≤ span * 2 ^ 38 →
    unsigned_abs col ≤ 2 ^ 38 + 1
near_by span over (pos c) less near = elim (cases_lt (2 ^ 38 + 1) c) [
  | inl far ↦ (let m : span * (2 ^ 38 + 2) ≤ span * c = mul-le-mul_left span (omega arith) in
      omega (arith, ints, m, near))
  | inr good ↦ omega (arith, ints)
]
near_by span over (negsuc c) less near = elim (cases_lt (2 ^ 38) c) [
  | inl far ↦ (let m : span * (2 ^ 38 + 1) ≤ span * c = mul-le-mul_left span (omega arith) in
      omega (arith, ints, m, near))
  | inr good ↦ omega (arith, ints)
]

-- so the column is near the page
pub near_col : (e : Edge) → IsEdge e → unsigned_abs e.col ≤ 2 ^ 38 + 1
near_col e is =
    near_by e.span e.over e.col is.over (subst (λ z. unsigned_abs z ≤ e.span * 2 ^ 38) (reach_here e)
    (is.near e.row (omega arith) is.order))

-- the first column that is right of a place, or on it
cross_by : (span over : ℕ) (c : ℤ) (k : ℕ) → over < span →
    int_le c (pos k) ≡ int_le (pos span *ℤ c -ℤ pos over) (pos (span * k))
cross_by span over (pos c) k less = elim (cases_lt k c) [
  | inl left ↦ (let m : span * (k + 1) ≤ span * c = mul-le-mul_left span (omega arith) in
      let one : int_le (pos c) (pos k) ≡ false = lt-leb c k left in
      let two : false ≡ int_le (pos span *ℤ pos c -ℤ pos over) (pos (span * k)) = omega (arith, ints, m) in one ∙ two)
  | inr right ↦ (let m : span * c ≤ span * k = mul-le-mul_left span right in
      let one : int_le (pos c) (pos k) ≡ true = le-leb c k right in
      let two : true ≡ int_le (pos span *ℤ pos c -ℤ pos over) (pos (span * k)) = omega (arith, ints, m) in one ∙ two)
]
cross_by span over (negsuc c) k less =
    let two : true ≡ int_le (pos span *ℤ negsuc c -ℤ pos over) (pos (span * k)) = omega (arith, ints) in two

-- in an edge's own row the columns that are right of its place, or on it, are those from its column on
pub col_crossed : (e : Edge) (k : ℕ) → IsEdge e → int_le e.col (pos k) ≡ int_le (reach_in e.row e) (pos (e.span * k))
col_crossed e k is = cross_by e.span e.over e.col k is.over ∙ ap (λ z. int_le z (pos (e.span * k))) (sym (reach_here e))

-- a row further the place has grown once
grown : (span over over' part more : ℕ) (col step col' : ℤ) →
    (pos over' ≡ (pos over -ℤ pos part) +ℤ pos (more * span)) → col' ≡ ((col +ℤ step) +ℤ pos more) →
    (pos span *ℤ col' -ℤ pos over') ≡ ((pos span *ℤ col -ℤ pos over) +ℤ (pos span *ℤ step +ℤ pos part))
grown span over over' part more col step col' is col_is =
    let one = over_sum (pos span) (col +ℤ step) (pos more) col' col_is in
    let two = over_sum (pos span) col step (col +ℤ step) refl in
    omega (arith, ints, is, one, two)

one_less : (k row : ℕ) → (pos k -ℤ pos row) ≡ ((pos k -ℤ pos (row + 1)) +ℤ pos 1)
one_less k row = omega (arith, ints)

moved_reach : (e : Edge) (more over' k : ℕ) (col' : ℤ) →
    (pos over' ≡ (pos e.over -ℤ pos e.part) +ℤ pos (more * e.span)) → col' ≡ ((e.col +ℤ e.step) +ℤ pos more) →
    reach_in k (record {
      col = col';
      step = e.step;
      over = over';
      part = e.part;
      span = e.span;
      row = e.row + 1;
      last =
          e.last;
      rises = e.rises;
    }) ≡ reach_in k e
unfolding reach_in
moved_reach e more over' k col' is col =
    ap (λ z. z +ℤ (pos k -ℤ pos (e.row + 1)) *ℤ (pos e.span *ℤ e.step +ℤ pos e.part))
    (grown e.span e.over over' e.part more e.col e.step col' is col)
    ∙ once_more (pos e.span *ℤ e.col -ℤ pos e.over) (pos e.span *ℤ e.step +ℤ pos e.part) (pos k -ℤ pos (e.row + 1))
    (pos k -ℤ pos e.row) (one_less k e.row)

same_turn : (b c : Bool) (row row' last k : ℕ) (rises : Bool) → row < k → row' ≡ row + 1 → b ≡ c →
    (if ((nat_le row' k && nat_le k last) && b) then edge_turn rises else pos 0)
    ≡ (if ((nat_le row k && nat_le k last) && c) then edge_turn rises else pos 0)
same_turn b c row row' last k rises late next same =
    let one : nat_le row' k ≡ true = le-leb row' k (omega arith) in
    let two : nat_le row k ≡ true = le-leb row k (omega arith) in
    rw (one, two, same) refl

-- an edge moved on by its step, and by columns more as what is over needs, is the edge in the next row
pub next_edge : (e : Edge) (more over' : ℕ) (col' : ℤ) → IsEdge e → e.row < e.last → over' < e.span →
    (pos over' ≡ (pos e.over -ℤ pos e.part) +ℤ pos (more * e.span)) → col' ≡ ((e.col +ℤ e.step) +ℤ pos more) →
    IsNextOf e (record {
      col = col';
      step = e.step;
      over = over';
      part = e.part;
      span = e.span;
      row = e.row + 1;
      last =
          e.last;
      rises = e.rises;
    })
unfolding turn_in
next_edge e more over' col' is less low sum col = record {
  at = refl;
  edge = record {
    over = low;
    part = is.part;
    size = is.size;
    slope = is.slope;
    order = omega arith;
    numbered = is.numbered;
    near = λ k late early. subst (λ z. unsigned_abs z ≤ e.span * 2 ^ 38) (sym (moved_reach e more over' k col' sum col))
        (is.near k (omega arith) early);
  };
  turns = λ k c late. same_turn _ _ e.row (e.row + 1) e.last k e.rises late refl
      (ap (λ z. int_le z (pos (e.span * c))) (moved_reach e more over' k col' sum col));
}
