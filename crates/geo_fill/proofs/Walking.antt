-- The steps of a walk from row to row.
use Rattle.std.proofs.Common.{◌≡◌, ◌∙◌, ap, sym, subst, refl, ℕ, ◌+◌, ◌-◌, ◌*◌, ◌<◌, ◌≤◌, Bool, true, false, ◌&&◌, List}
use Rattle.std.proofs.Common.{[], ◌∷◌, ◌++◌, length, get_or, set, take, drop, pos, ◌+ℤ◌, arith}
use Rattle.std.specs.Prelude.{int_le, nat_le, if◌then◌else◌}
use Rattle.std.specs.List.{All}
use Rattle.std.proofs.lemmas.Bool.{le-leb, lt-leb, and_left, and_right}
use Rattle.std.proofs.lemmas.List.{take_more_set, drop-drop, drop-set-lt, get_or-take, get_or-drop, length-set}
use Rattle.std.proofs.lemmas.List.Elements.{All-push}
use Rattle.std.proofs.lemmas.Int.{ints}
use Rattle.geo_fill.proofs.Adding.{added_more}
use Rattle.press_nums.proofs.Sums.{sum_more, sum_push}
use Rattle.geo_fill.proofs.Counting.{winding_push}
use Rattle.geo_fill.specs.declared.edge.Edge.{Edge}
use Rattle.geo_fill.specs.declared.crossing.Crossing.{Crossing}
use Rattle.geo_fill.specs.Code.Crossings.{turn_at, winding_by, IsOfRange}
use Rattle.std.proofs.lemmas.Grind.{common_steps}
use Rattle.geo_fill.specs.Code.Steps.{AreAdded}
use Rattle.geo_fill.specs.Walk.{reach_in, turn_in, edge_turn, winding_in, IsActive}
use Rattle.geo_fill.specs.Code.WalkSteps.{IsNextOf, IsWalkKept, AreMoved, AreMovedSoFar}

-- one edge more, at the end
edges_push : (row col : ℕ) (edges : List Edge) (e : Edge) →
    winding_in row col (edges ++ e ∷ []) ≡ (winding_in row col edges +ℤ turn_in row col e)
edges_push row col edges e = sum_push (turn_in row col) edges e

-- an edge adds nothing behind its last row
no_turn : (b c : Bool) (row last : ℕ) (rises : Bool) → last < row →
    (if ((b && nat_le row last) && c) then edge_turn rises else pos 0) ≡ pos 0
no_turn b c row last rises less =
    let e : nat_le row last ≡ false = lt-leb row last less in
    let f : ((b && nat_le row last) && c) ≡ false =
    and_left (b && nat_le row last) c (and_right b (nat_le row last) e) in
    rw f refl

ended : (row col : ℕ) (e : Edge) → e.last < row → turn_in row col e ≡ pos 0
unfolding turn_in
ended row col e less = no_turn _ _ row e.last e.rises less

-- nor before its first one
not_begun_by : (b c : Bool) (row first : ℕ) (rises : Bool) → row < first →
    (if ((nat_le first row && b) && c) then edge_turn rises else pos 0) ≡ pos 0
not_begun_by b c row first rises less =
    let e : nat_le first row ≡ false = lt-leb first row less in
    let f : ((nat_le first row && b) && c) ≡ false =
    and_left (nat_le first row && b) c (and_left (nat_le first row) b e) in
    rw f refl

-- an edge adds nothing before its first row
pub not_begun : (row col : ℕ) (e : Edge) → row < e.row → turn_in row col e ≡ pos 0
unfolding turn_in
not_begun row col e less = not_begun_by _ _ row e.row e.rises less

-- an edge is moved on
pub kept_one : (row kept : ℕ) (e next : Edge) (old : List Edge) → kept < length old → IsActive row e → IsNextOf e next →
    IsWalkKept row kept (kept + 1) e old (set old kept next)
kept_one row kept e next old inside active is = record {
  few = omega arith;
  size = length-set old kept next;
  others = drop-set-lt (kept + 1) old kept next (omega arith);
  crossing = λ all. subst (λ (es : List Edge). All (IsActive (row + 1)) es) (sym (take_more_set old kept next inside))
      (All-push (IsActive (row + 1)) (take kept old) next all
      (record { edge = is.edge; here = is.at ∙ ap (λ n. n + 1) active.here }));
  turns = λ k col late.
      ap (winding_in k col) (take_more_set old kept next inside)
      ∙ (edges_push k col (take kept old) next
      ∙ ap (λ z. winding_in k col (take kept old) +ℤ z) (is.turns k col (omega (arith, active.here, late))));
}

-- or left out
pub left_out : (row kept : ℕ) (e : Edge) (old : List Edge) → e.last ≤ row → IsWalkKept row kept kept e old old
left_out row kept e old less = record {
  few = omega arith;
  size = refl;
  others = refl;
  crossing = λ all. all;
  turns = λ k col late. let z = ended k col e (omega arith) in omega (arith, ints, z);
}

-- an element from a place on is the same in both lists
same_from : (i j : ℕ) (old now : List Edge) (d : Edge) → i ≤ j → drop i now ≡ drop i old →
    get_or now j d ≡ get_or old j d
same_from i j old now d le same =
    let whole : i + (j - i) ≡ j = omega arith in
    ap (λ n. get_or now n d) (sym whole) ∙ (sym (get_or-drop i now (j - i) d)
    ∙ (ap (λ (es : List Edge). get_or es (j - i) d) same
    ∙ (get_or-drop i old (j - i) d ∙ ap (λ n. get_or old n d) whole)))

-- lists of edges that are the same from a place on are the same from a later one on
pub drop_from : (i j : ℕ) (old now : List Edge) → i ≤ j → drop i now ≡ drop i old → drop j now ≡ drop j old
drop_from i j old now le same =
    let whole : i + (j - i) ≡ j = omega arith in
    ap (λ n. drop n now) (sym whole) ∙ (sym (drop-drop (j - i) i now)
    ∙ (ap (drop (j - i)) same ∙ (drop-drop (j - i) i old ∙ ap (λ n. drop n old) whole)))

-- so it is one of the active ones
pub still_active : (row i active : ℕ) (e : Edge) (old now : List Edge) → All (IsActive row) (take active old) →
    i < active → active ≤ length old → drop i now ≡ drop i old → e ≡ get_or now i e → IsActive row e
still_active row i active e old now all less inside same is =
    let long : i < length (take active old) = omega (arith, length_take active old inside) in
    subst (λ (x : Edge). IsActive row x) (get_or-take active old i e less
    ∙ sym (is ∙ same_from i i old now e (omega arith) same)) (all i e long)
  where
    length_take : (n : ℕ) (es : List Edge) → n ≤ length es → length (take n es) ≡ n
    length_take n es le = grind (arith, common_steps)

-- one edge more was moved on
pub moved_more : (row i kept kept' : ℕ) (e : Edge) (old now new : List Edge) → i < length old → e ≡ get_or now i e →
    AreMovedSoFar row i kept old now → IsWalkKept row kept kept' e now new → AreMovedSoFar row (i + 1) kept' old new
moved_more row i kept kept' e old now new inside is so_far is_kept = record {
  fewer = omega (arith, so_far.fewer, is_kept.few);
  size = is_kept.size ∙ so_far.size;
  others = drop_from (kept + 1) (i + 1) now new (omega (arith, so_far.fewer)) is_kept.others
      ∙ drop_from i (i + 1) old now (omega arith) so_far.others;
  crossing = is_kept.crossing so_far.crossing;
  turns = λ k col late. is_kept.turns k col late
      ∙ (ap (λ z. z +ℤ turn_in k col e) (so_far.turns k col late)
      ∙ sym (sum_more (turn_in k col) old i e inside (is ∙ same_from i i old now e (omega arith) so_far.others)));
}

-- at first no edge was moved on
pub none_moved : (row : ℕ) (edges : List Edge) → AreMovedSoFar row 0 0 edges edges
none_moved row edges = record {
  fewer = omega arith;
  size = refl;
  others = refl;
  crossing = λ k d less. absurd (omega arith);
  turns = λ k col late. refl;
}

-- once as many edges were moved on as are active, all of them were
pub all_moved : (row i active kept : ℕ) (old new : List Edge) → i ≡ active → AreMovedSoFar row i kept old new →
    AreMoved row active kept old new
all_moved row i active kept old new is so_far =
    subst (λ n. AreMoved row n kept old new) is (record {
      fewer = so_far.fewer;
      size = so_far.size;
      others = so_far.others;
      crossing = so_far.crossing;
      turns = so_far.turns;
    })

-- where an edge crosses a row
crossing_turn : (row c col : ℕ) (e : Edge) → IsActive row e →
    nat_le col c ≡ int_le (reach_in e.row e) (pos (e.span * c)) →
    turn_at c (record { col = col; rises = e.rises }) ≡ turn_in row c e
unfolding turn_in
crossing_turn row c col e active is =
    let begins : nat_le e.row row ≡ true = le-leb e.row row (omega (arith, active.here)) in
    let ends : nat_le row e.last ≡ true = le-leb row e.last (omega (arith, active.here, active.edge.order)) in
    by_tests _ _ _ true (nat_le col c) e.rises begins ends
    (is ∙ ap (λ n. int_le (reach_in n e) (pos (e.span * c))) active.here)
  where
    by_tests : (a b d : Bool) (unused t rises : Bool) → a ≡ true → b ≡ true → t ≡ d →
        (if t then edge_turn rises else pos 0) ≡ (if ((a && b) && d) then edge_turn rises else pos 0)
    by_tests a b d unused t rises one two three = rw (one, two, three) refl

-- the crossing at which an active edge crosses a row adds, in a range of columns, what the edge adds
pub crossing_added : (from to row col : ℕ) (e : Edge) (old : List Crossing) → IsActive row e → from ≤ col → col ≤ to →
    ((c : ℕ) → from ≤ c → c < to → nat_le col c ≡ int_le (reach_in e.row e) (pos (e.span * c))) →
    AreAdded from to old (old ++ record { col = col; rises = e.rises } ∷ []) (λ c. turn_in row c e)
crossing_added from to row col e old active low high is = record {
  turns = λ c late less. winding_push c old (record { col = col; rises = e.rises })
      ∙ ap (λ z. winding_by c old +ℤ z) (crossing_turn row c col e active (is c late less));
  range = λ all. All-push (IsOfRange from to) old (record { col = col; rises = e.rises }) all (low, high);
}

-- crossings added for the first edges, and then for the next one, are added for one edge more
pub crossings_more : (from to row i : ℕ) (e : Edge) (edges : List Edge) (old now next : List Crossing) →
    i < length edges → e ≡ get_or edges i e → AreAdded from to old now (λ col. winding_in row col (take i edges)) →
    AreAdded from to now next (λ col. turn_in row col e) →
    AreAdded from to old next (λ col. winding_in row col (take (i + 1) edges))
crossings_more from to row i e edges old now next inside is so_far more =
    added_more from to old now next _ _ _ (λ col. sym (sum_more (turn_in row col) edges i e inside is)) so_far more
