-- A walk as a whole: its edges in order, the row at which it is, and the next one.
use Rattle.std.proofs.Common.{◌≡◌, ◌∙◌, ap, sym, subst, refl, add-one, ℕ, ◌+◌, ◌<◌, ◌≤◌, inl, inr, Bool, ◌&&◌, List, []}
use Rattle.std.proofs.Common.{◌∷◌, ◌++◌, get_or, take, drop, map, Option, Some, None, ℤ, pos, ◌+ℤ◌, arith}
use Rattle.std.specs.Prelude.{◌-ℤ◌}
use Rattle.std.specs.List.{All, sum_by}
use Rattle.std.specs.List.Sorted.{IsPermutation, IsNonDecreasingBy}
use Rattle.std.proofs.lemmas.Bool.{cases_lt}
use Rattle.std.proofs.lemmas.List.{map-append}
use Rattle.std.proofs.lemmas.List.Sums.{fold-append, sum_by-cons}
use Rattle.std.proofs.lemmas.List.Sorted.{sum_by-IsPermutation, All-permutation}
use Rattle.std.proofs.lemmas.Int.{ints}
use borrow.Author.Differences.{up, down}
use Rattle.press_fault.specs.Plane.{PointValue}
use Rattle.page_model.specs.Inside.{total, centre, winding, is_inside}
use Rattle.page_model.specs.Disc.{DiscValue}
use Rattle.page_model.specs.Cover.{disc_holds}
use Rattle.page_model.specs.declared.shape.Rule.{Rule}
use Rattle.page_model.specs.declared.shape.Shape.TheVariants.{Poly}
use Rattle.geo_fill.proofs.Apart.{before_range, behind_range}
use Rattle.press_nums.proofs.Sums.{sum_from, sum_cons}
use Rattle.geo_fill.proofs.Counting.{winding_permuted}
use Rattle.geo_fill.proofs.Walking.{drop_from, not_begun}
use Rattle.geo_fill.specs.declared.edge.Edge.{Edge}
use Rattle.geo_fill.specs.declared.crossing.Crossing.{Crossing}
use Rattle.geo_fill.specs.Spans.{SpanValue, is_in, HaveJust}
use Rattle.geo_fill.specs.Code.Crossings.{winding_by}
use Rattle.geo_fill.specs.Code.Steps.{AreAdded}
use Rattle.geo_fill.specs.Walk.{turn_in, winding_in, IsEdge, IsActive, AreWaiting, EdgeWalkValue, holds_by, walk_holds}
use Rattle.geo_fill.specs.Walk.{Walks}
use Rattle.geo_fill.specs.Code.WalkSteps.{IsListed, AreListed, AreMoved, AreEntered, IsInRow, IsNextWalk}

-- the order of edges doesn't matter
winding_counts : (row col : ℕ) (edges : List Edge) →
    winding_in row col edges ≡ (pos (sum_by (λ (e : Edge). up (turn_in row col e)) edges) -ℤ pos
    (sum_by (λ (e : Edge). down (turn_in row col e)) edges))
winding_counts row col [] = refl
winding_counts row col (e ∷ rest) =
    let whole = sum_cons (turn_in row col e) (map (turn_in row col) rest) in
    let others = winding_counts row col rest in
    let ups = sum_by-cons (λ (e : Edge). up (turn_in row col e)) e rest in
    let downs = sum_by-cons (λ (e : Edge). down (turn_in row col e)) e rest in
    omega (arith, ints, whole, others, ups, downs)

edges_permuted : (row col : ℕ) (es fs : List Edge) → IsPermutation es fs → winding_in row col fs ≡ winding_in row col es
edges_permuted row col es fs moved =
    let ups = sum_by-IsPermutation (λ (e : Edge). up (turn_in row col e)) es fs moved in
    let downs = sum_by-IsPermutation (λ (e : Edge). down (turn_in row col e)) es fs moved in
    winding_counts row col fs ∙ (ap (λ n. pos n -ℤ pos (sum_by (λ (e : Edge). down (turn_in row col e)) fs)) ups
    ∙ (ap (λ n. pos (sum_by (λ (e : Edge). up (turn_in row col e)) es) -ℤ pos n) downs
    ∙ sym (winding_counts row col es)))

-- two lists of edges
two_lists : (row col : ℕ) (es fs : List Edge) →
    winding_in row col (es ++ fs) ≡ (winding_in row col es +ℤ winding_in row col fs)
two_lists row col es fs = ap total (map-append (turn_in row col) es fs)
    ∙ (fold-append ◌+ℤ◌ (pos 0) (map (turn_in row col) es) (map (turn_in row col) fs)
    ∙ sum_from (winding_in row col es) (map (turn_in row col) fs))

-- edges that begin later add nothing
none_yet : (from row col : ℕ) (edges : List Edge) → AreWaiting from edges → row < from →
    winding_in row col edges ≡ pos 0
none_yet from row col [] waiting less = refl
none_yet from row col (e ∷ rest) (late, edge, others) less =
    let here = not_begun row col e (omega (arith, late)) in
    let later = none_yet e.row row col rest others (omega (arith, late)) in
    let whole = sum_cons (turn_in row col e) (map (turn_in row col) rest) in
    omega (arith, ints, here, later, whole)

-- edges in order
at_first : (e : Edge) (rest : List Edge) (d : Edge) → get_or (e ∷ rest) 0 d ≡ e
at_first e rest d = refl

at_later : (e : Edge) (rest : List Edge) (k : ℕ) (d : Edge) → get_or (e ∷ rest) (k + 1) d ≡ get_or rest k d
at_later e rest k d = rw add-one refl

all_listed : (from : ℕ) (e : Edge) (rest : List Edge) → All (IsListed from) (e ∷ rest) →
    All (λ (x : Edge). IsEdge x) rest
all_listed from e rest all k d less = subst (λ (x : Edge). IsEdge x) (at_later e rest k d)
    (all (k + 1) d (omega arith)).edge

waiting_by : (from : ℕ) (edges : List Edge) → All (λ (e : Edge). IsEdge e) edges →
    All (λ (e : Edge). from ≤ e.row) edges → IsNonDecreasingBy (λ (e : Edge). e.row) edges → AreWaiting from edges
waiting_by from [] all least sorted = tt
waiting_by from (e ∷ rest) all least sorted = (
  subst (λ (x : Edge). from ≤ x.row) (at_first e rest e) (least 0 e (omega arith)),
  subst (λ (x : Edge). IsEdge x) (at_first e rest e) (all 0 e (omega arith)),
  waiting_by e.row rest
      (λ k d less. subst (λ (x : Edge). IsEdge x) (at_later e rest k d) (all (k + 1) d (omega arith)))
      (λ k d less. subst (λ (x : Edge). e.row ≤ x.row) (at_later e rest k d)
      (subst (λ (x : Edge). x.row ≤ (get_or (e ∷ rest) (k + 1) d).row) (at_first e rest d)
      (sorted 0 (k + 1) d (omega arith) (omega arith))))
      (λ i j d le less. subst (λ (x : Edge). (get_or rest i d).row ≤ x.row) (at_later e rest j d)
      (subst (λ (x : Edge). x.row ≤ (get_or (e ∷ rest) (j + 1) d).row) (at_later e rest i d)
      (sorted (i + 1) (j + 1) d (omega arith) (omega arith)))),
)

-- the edges that were listed from a first row on, sorted by their rows, wait from that row on
pub listed_waiting : (first end : ℕ) (old listed sorted : List Edge) (turn : ℕ → ℕ → ℤ) → old ≡ [] →
    AreListed first end old listed turn → IsPermutation listed sorted → IsNonDecreasingBy (λ (e : Edge). e.row) sorted →
    AreWaiting first sorted
listed_waiting first end old listed sorted turn none is moved order =
    let all = All-permutation (IsListed first) listed sorted moved
    (is.sound (subst (λ (es : List Edge). All (IsListed first) es) (sym none) (λ k d less. absurd (omega arith))))
    in
    waiting_by first sorted (λ k d less. (all k d less).edge) (λ k d less. (all k d less).late) order

pub zero_more : (n : ℕ) → 0 + n ≡ n
zero_more n = omega arith

-- the edges entered at the first row are its active ones, and those behind them wait
pub first_in_row : (first rows entered : ℕ) (sorted edges : List Edge) → first + rows ≤ 4294967296 →
    AreEntered first 0 0 entered sorted edges → IsInRow first rows entered entered edges
first_in_row first rows entered sorted edges small in_row = record {
  order = omega arith;
  inside = omega (arith, in_row.inside);
  crossing = subst (λ n. All (IsActive first) (take n edges)) (zero_more entered) in_row.crossing;
  waiting = subst (λ n. AreWaiting (first + 1) (drop n edges)) (zero_more entered) in_row.waiting;
  numbered = small;
}

pub next_in_row : (row left left' active kept next entered : ℕ) (old moved new : List Edge) →
    IsInRow row left active next old → AreMoved row active kept old moved →
    AreEntered (row + 1) kept next entered moved new → left' + 1 ≡ left →
    IsInRow (row + 1) left' (kept + entered) (next + entered) new
next_in_row row left left' active kept next entered old moved new in_row is then count = record {
  order = omega (arith, in_row.order, is.fewer);
  inside = then.inside;
  crossing = then.crossing;
  waiting = then.waiting;
  numbered = omega (arith, in_row.numbered);
}

-- a walk over rings
pub rings_walked : (rings : List (List PointValue)) (rule : Rule) (first rows : ℕ) (entered end : ℕ)
    (old listed sorted edges : List Edge) → end ≡ first + rows → old ≡ [] →
    AreListed first end old listed (λ row col. winding (centre col) (centre row) rings) → IsPermutation listed sorted →
    AreEntered first 0 0 entered sorted edges →
    Walks (Poly rings) rule first rows (record {
      rule = rule;
      row = first;
      left = rows;
      disc = None;
      edges =
          take entered edges ++ drop entered edges;
    })
unfolding walk_holds
rings_walked rings rule first rows entered end old listed sorted edges last none is moved in_row = record {
  at = refl;
  more = refl;
  holds = λ k col late less. ap (is_inside rule)
      (subst (λ n. winding_in k col (take n edges ++ drop n edges) ≡ winding_in k col sorted) (zero_more entered)
      (in_row.turns k col) ∙ (edges_permuted k col listed sorted moved
      ∙ (is.turns k col late (omega (arith, last))
      ∙ by_none (winding_in k col old) (winding (centre col) (centre k) rings) (ap (winding_in k col) none))));
}
  where
    by_none : (a b : ℤ) → a ≡ pos 0 → (a +ℤ b) ≡ b
    by_none a b zero = omega (arith, ints, zero)

-- the next row
same_holds : (rule : Rule) (es fs : List Edge) (row col : ℕ) (disc : Option DiscValue) →
    winding_in row col es ≡ winding_in row col fs → holds_by rule es row col disc ≡ holds_by rule fs row col disc
same_holds rule es fs row col None same = ap (is_inside rule) same
same_holds rule es fs row col (Some d) same = refl

-- once active edges were moved on and those of the next row entered, the walk has gone on by a row
pub gone_on : (rule : Rule) (row left left' active kept next entered : ℕ) (disc : Option DiscValue)
    (old moved new : List Edge) → IsInRow row left active next old → AreMoved row active kept old moved →
    AreEntered (row + 1) kept next entered moved new → left' + 1 ≡ left →
    IsNextWalk (record { rule = rule; row = row; left = left; disc = disc; edges = take active old ++ drop next old })
    (record {
      rule = rule;
      row = row + 1;
      left = left';
      disc = disc;
      edges = take (kept + entered) new
          ++ drop (next + entered) new;
    })
unfolding walk_holds
gone_on rule row left left' active kept next entered disc old moved new in_row is then count = record {
  at = refl;
  fewer = count;
  holds = λ k col late. same_holds rule (take (kept + entered) new ++ drop (next + entered) new)
      (take active old ++ drop next old) k col disc
      (then.turns k col ∙ (two_lists k col (take kept moved) (drop next moved)
      ∙ (ap (λ z. z +ℤ winding_in k col (drop next moved)) (is.turns k col late)
      ∙ (ap (λ (es : List Edge). winding_in k col (take active old) +ℤ winding_in k col es)
      (drop_from active next old moved in_row.order is.others)
      ∙ sym (two_lists k col (take active old) (drop next old))))));
}

-- the edges that wait stay in order while others are moved on
pub still_waiting : (row left active kept next : ℕ) (old moved : List Edge) → IsInRow row left active next old →
    AreMoved row active kept old moved → AreWaiting (row + 1) (drop next moved)
still_waiting row left active kept next old moved in_row is =
    subst (λ (es : List Edge). AreWaiting (row + 1) es)
    (sym (drop_from active next old moved in_row.order is.others)) in_row.waiting

-- spans by one test are spans by another that agrees
just_same : (spans : List SpanValue) (from to : ℕ) (f g : ℕ → Bool) →
    ((col : ℕ) → from ≤ col → col < to → f col ≡ g col) → HaveJust spans from to f → HaveJust spans from to g
just_same spans from to f g same just = record {
  columns = λ col. just.columns col ∙ (elim (cases_lt col from) [
    | inl early ↦ rw (before_range from to col early) refl
    | inr late ↦ elim (cases_lt col to) [
      | inl less ↦ ap (λ b. is_in from to col && b) (same col late less)
      | inr past ↦ rw (behind_range from to col past) refl
    ]
  ]);
}

-- the crossings of edges, in any order, give their winding number
pub edge_spans : (spans : List SpanValue) (rule : Rule) (from to row : ℕ) (edges : List Edge)
    (old added sorted : List Crossing) → old ≡ [] → AreAdded from to old added (λ col. winding_in row col edges) →
    IsPermutation added sorted → HaveJust spans from to (λ col. is_inside rule (winding_by col sorted)) →
    HaveJust spans from to (λ col. is_inside rule (winding_in row col edges))
edge_spans spans rule from to row edges old added sorted none is moved just =
    just_same spans from to _ _ (λ col late less. ap (is_inside rule)
    (winding_permuted col added sorted moved
    ∙ (is.turns col late less ∙ by_none (winding_by col old) (winding_in row col edges)
    (ap (winding_by col) none)))) just
  where
    by_none : (a b : ℤ) → a ≡ pos 0 → (a +ℤ b) ≡ b
    by_none a b zero = omega (arith, ints, zero)

-- the active edges alone give the row
pub row_by_active : (spans : List SpanValue) (rule : Rule) (row left active next from to : ℕ) (edges : List Edge) →
    IsInRow row left active next edges → HaveJust spans from to
    (λ col. is_inside rule (winding_in row col (take active edges))) →
    HaveJust spans from to (walk_holds (record {
      rule = rule;
      row = row;
      left = left;
      disc = None;
      edges =
          take active edges ++ drop next edges;
    }) row)
unfolding walk_holds
row_by_active spans rule row left active next from to edges in_row just =
    just_same spans from to _ _ (λ col late less. ap (is_inside rule) (whole col)) just
  where
    whole : (col : ℕ) → winding_in row col (take active edges)
        ≡ winding_in row col (take active edges ++ drop next edges)
    whole col =
        let two = two_lists row col (take active edges) (drop next edges) in
        let none = none_yet (row + 1) row col (drop next edges) in_row.waiting (omega arith) in
        omega (arith, ints, two, none)

-- the spans of the columns that a disc holds in a row are those of a walk over that disc
pub row_of_disc : (spans : List SpanValue) (rule : Rule) (row left from to : ℕ) (d : DiscValue) (edges : List Edge) →
    HaveJust spans from to (disc_holds d row) →
    HaveJust spans from to (walk_holds (record { rule = rule; row = row; left = left; disc = Some d; edges = edges })
    row)
unfolding walk_holds
row_of_disc spans rule row left from to d edges just = record { columns = just.columns }

-- a walk over rings that is at a row is at each row equal to it
pub at_row : (rings : List (List PointValue)) (rule : Rule) (first row rows : ℕ) (walk : EdgeWalkValue) → row ≡ first →
    Walks (Poly rings) rule row rows walk → Walks (Poly rings) rule first rows walk
at_row rings rule first row rows walk is walks = subst (λ n. Walks (Poly rings) rule n rows walk) is walks
