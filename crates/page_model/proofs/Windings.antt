-- Winding numbers as sums along a way from point to point.
use Rattle.std.proofs.Common.{inl, inr, ◌≡◌, ◌∙◌, ap, refl, ℕ, ◌+◌, ◌*◌, ◌%◌, ◌<◌, ◌≤◌, Bool, true, false, List, []}
use Rattle.std.proofs.Common.{◌∷◌, ◌++◌, map, ℤ, pos, ◌+ℤ◌, arith}
use Rattle.std.specs.Prelude.{◌-ℤ◌, ◌*ℤ◌, neg_ℤ, int_le, int_lt, ◌==◌, nat_lt, length, if◌then◌else◌, unsigned_abs}
use Rattle.std.specs.Prelude.{◌≤ℤ◌, ◌<ℤ◌}
use Rattle.std.specs.List.{fold, zip, list_any, list_all}
use Rattle.std.proofs.lemmas.Bool.{and_parts, and_from, or_parts, true_from_ne_false, false≢true, ltb-false, eqb-true}
use Rattle.std.proofs.lemmas.Bool.{eqb-false, not-true}
use Rattle.std.proofs.lemmas.Int.{ints}
use Rattle.std.proofs.Math.Nat.{mul-le-mul_left}
use borrow.Author.Differences.{up, down}
use Rattle.press_fault.specs.Plane.{PointValue}
use Rattle.page_model.specs.Inside.{total, turn_of, ring_winding, winding, is_between, crosses_left, is_inside}
use Rattle.page_model.specs.Inside.{rings_hold, centre}
use Rattle.page_model.specs.Laws.{GoOneWay}
use Rattle.page_model.specs.declared.shape.Rule.{Rule}
use Rattle.page_model.specs.declared.shape.Rule.TheVariants.{Nonzero, EvenOdd}

-- the sum of what the edges of a way count, from a point by some others to a last one
abbrev pub way : (PointValue × PointValue → ℤ) → PointValue → List PointValue → PointValue → ℤ
way f p [] last = f (p, last)
way f p (q ∷ qs) last = f (p, q) +ℤ way f q qs last

sum_from : (f : PointValue × PointValue → ℤ) (z : ℤ) (p : PointValue) (ps : List PointValue) (last : PointValue) →
    fold ◌+ℤ◌ z (map f (zip (p ∷ ps) (ps ++ last ∷ []))) ≡ z +ℤ way f p ps last
sum_from f z p [] last = refl
sum_from f z p (q ∷ qs) last = sum_from f (z +ℤ f (p, q)) q qs last
    ∙ (let a = f (p, q) in let b = way f q qs last in omega (arith, ints))

-- the winding number of a ring is the sum along the way from its first point round to it
pub ring_is_way : (px py : ℤ) (p : PointValue) (ps : List PointValue) →
    ring_winding px py (p ∷ ps) ≡ way (turn_of px py) p ps p
unfolding ring_winding
ring_is_way px py p ps = sum_from (turn_of px py) (pos 0) p ps p
    ∙ (let a = way (turn_of px py) p ps p in omega (arith, ints))

-- a way by a point is two ways
pub way_by : (f : PointValue × PointValue → ℤ) (p : PointValue) (ps : List PointValue) (mid : PointValue)
    (qs : List PointValue) (last : PointValue) → way f p (ps ++ mid ∷ qs) last ≡ way f p ps mid +ℤ way f mid qs last
way_by f p [] mid qs last = refl
way_by f p (q ∷ ps) mid qs last = ap (λ z. f (p, q) +ℤ z) (way_by f q ps mid qs last)
    ∙ (let a = f (p, q) in let b = way f q ps mid in let d = way f mid qs last in omega (arith, ints))

-- a way whose edges each count the rise of a measure counts the rise from its first point to its last
pub way_rises : (f : PointValue × PointValue → ℤ) (rise : PointValue → ℤ) (t : PointValue → Bool) →
    ((p q : PointValue) → t p ≡ true → t q ≡ true → f (p, q) ≡ rise q -ℤ rise p) →
    (p : PointValue) (ps : List PointValue) (last : PointValue) → t p ≡ true → list_all t ps ≡ true → t last ≡ true →
    way f p ps last ≡ rise last -ℤ rise p
way_rises f rise t each p [] last hp hps hl = each p last hp hl
way_rises f rise t each p (q ∷ qs) last hp hps hl =
    let (hq, hqs) = and_parts (t q) (list_all t qs) hps in
    let first = each p q hp hq in
    let rest = way_rises f rise t each q qs last hq hqs hl in omega (arith, ints, first, rest)

-- an edge that is turned round counts the opposite
pub turned_round : (px py : ℤ) (p q : PointValue) → turn_of px py (q, p) ≡ neg_ℤ (turn_of px py (p, q))
turned_round px py p q = grind (arith, ints)

-- 1 for a point below the height, as the half-open rule takes it, else 0
abbrev pub step_at : ℤ → PointValue → ℤ
step_at py p = if int_lt py p.y then pos 1 else pos 0

-- an edge between points at or left of a line crosses each height at or left of it
left_of_line : (lx hx px w : ℤ) (a b : ℕ) → lx ≤ℤ px → hx ≤ℤ px → w ≡ hx -ℤ lx →
    (lx *ℤ pos (a + b) +ℤ pos b *ℤ w) ≤ℤ (px *ℤ pos (a + b))
left_of_line lx hx px w a b low high is =
    let by_low : a * (up lx + down px) ≤ a * (up px + down lx) = mul-le-mul_left a (omega (arith, ints)) in
    let by_high : b * (up hx + down px) ≤ b * (up px + down hx) = mul-le-mul_left b (omega (arith, ints)) in
    let along : up w + down hx + up lx ≡ down w + up hx + down lx = omega (arith, ints) in
    let by_width : b * (up w + down hx + up lx) ≡ b * (down w + up hx + down lx) = ap (λ z. b * z) along in
    omega (arith, ints)

-- an edge between points right of a line crosses each height right of it
right_of_line : (lx hx px w : ℤ) (a b : ℕ) → 0 < a → px <ℤ lx → px <ℤ hx → w ≡ hx -ℤ lx →
    (px *ℤ pos (a + b)) <ℤ (lx *ℤ pos (a + b) +ℤ pos b *ℤ w)
right_of_line lx hx px w a b some low high is =
    let by_low : a * (up px + down lx + 1) ≤ a * (up lx + down px) = mul-le-mul_left a (omega (arith, ints)) in
    let by_high : b * (up px + down hx + 1) ≤ b * (up hx + down px) = mul-le-mul_left b (omega (arith, ints)) in
    let along : up w + down hx + up lx ≡ down w + up hx + down lx = omega (arith, ints) in
    let by_width : b * (up w + down hx + up lx) ≡ b * (down w + up hx + down lx) = ap (λ z. b * z) along in
    omega (arith, ints)

left_test : (lx hx px w h t : ℤ) (a b : ℕ) → lx ≤ℤ px → hx ≤ℤ px → w ≡ hx -ℤ lx → h ≡ pos (a + b) → t ≡ pos b →
    int_le (lx *ℤ h +ℤ t *ℤ w) (px *ℤ h) ≡ true
left_test lx hx px w h t a b low high is tall deep =
    rw (tall, deep) (let order = left_of_line lx hx px w a b low high is in grind (arith, ints, order))

right_test : (lx hx px w h t : ℤ) (a b : ℕ) → 0 < a → px <ℤ lx → px <ℤ hx → w ≡ hx -ℤ lx → h ≡ pos (a + b) → t ≡ pos b →
    int_le (lx *ℤ h +ℤ t *ℤ w) (px *ℤ h) ≡ false
right_test lx hx px w h t a b some low high is tall deep =
    rw (tall, deep) (let order = right_of_line lx hx px w a b some low high is in grind (arith, ints, order))

-- an edge between points at or left of px that passes the height crosses it at or left of px
pub crosses_left_of : (px py : ℤ) (low high : PointValue) → int_le low.x px ≡ true → int_le high.x px ≡ true →
    is_between low.y high.y py ≡ true → crosses_left low high px py ≡ true
unfolding crosses_left
crosses_left_of px py low high lx hx within =
    let (from, to) = and_parts (int_le low.y py) (int_lt py high.y) within in
    let a = unsigned_abs (high.y -ℤ py) in
    let b = unsigned_abs (py -ℤ low.y) in
    left_test low.x high.x px (high.x -ℤ low.x) (high.y -ℤ low.y) (py -ℤ low.y) a b (omega (arith, ints))
    (omega (arith, ints)) refl (omega (arith, ints)) (omega (arith, ints))

-- an edge between points right of px crosses no height at or left of px
pub crosses_right_of : (px py : ℤ) (low high : PointValue) → int_le low.x px ≡ false → int_le high.x px ≡ false →
    is_between low.y high.y py ≡ true → crosses_left low high px py ≡ false
unfolding crosses_left
crosses_right_of px py low high lx hx within =
    let (from, to) = and_parts (int_le low.y py) (int_lt py high.y) within in
    let a = unsigned_abs (high.y -ℤ py) in
    let b = unsigned_abs (py -ℤ low.y) in
    right_test low.x high.x px (high.x -ℤ low.x) (high.y -ℤ low.y) (py -ℤ low.y) a b (omega (arith, ints))
    (omega (arith, ints)) (omega (arith, ints)) refl (omega (arith, ints)) (omega (arith, ints))

-- an edge right of px counts nothing
right_counts_none : (px py : ℤ) (p q : PointValue) → int_le p.x px ≡ false → int_le q.x px ≡ false →
    turn_of px py (p, q) ≡ pos 0
right_counts_none px py p q hp hq =
    let up_right = crosses_right_of px py p q hp hq in
    let down_right = crosses_right_of px py q p hq hp in
    grind (arith, up_right, down_right)

-- an edge at or left of px counts the step from its first point to its second
left_counts_step : (px py : ℤ) (p q : PointValue) → int_le p.x px ≡ true → int_le q.x px ≡ true →
    turn_of px py (p, q) ≡ step_at py q -ℤ step_at py p
left_counts_step px py p q hp hq =
    let up_left = crosses_left_of px py p q hp hq in
    let down_left = crosses_left_of px py q p hq hp in
    grind (arith, ints, up_left, down_left)

-- an edge between points below the height counts nothing
below_counts_none : (px py : ℤ) (p q : PointValue) → int_le p.y py ≡ false → int_le q.y py ≡ false →
    turn_of px py (p, q) ≡ pos 0
below_counts_none px py p q hp hq = grind (arith, ints)

-- an edge between points above the height counts nothing
above_counts_none : (px py : ℤ) (p q : PointValue) → int_le py p.y ≡ false → int_le py q.y ≡ false →
    turn_of px py (p, q) ≡ pos 0
above_counts_none px py p q hp hq = grind (arith, ints)

-- a sum of nothing but zeros
total_none : {X : Type 0} (g : X → ℤ) (t : X → Bool) → ((x : X) → t x ≡ false → g x ≡ pos 0) → (xs : List X) →
    list_any t xs ≡ false → total (map g xs) ≡ pos 0
total_none g t each [] none = refl
total_none g t each (x ∷ xs) none =
    let (here, rest) = or_parts (t x) (list_any t xs) none in
    ap (λ z. fold ◌+ℤ◌ (pos 0 +ℤ z) (map g xs)) (each x here) ∙ total_none g t each xs rest

way_none : (f : PointValue × PointValue → ℤ) (t : PointValue → Bool) →
    ((p q : PointValue) → t p ≡ false → t q ≡ false → f (p, q) ≡ pos 0) →
    (p : PointValue) (ps : List PointValue) (last : PointValue) → t p ≡ false → list_any t ps ≡ false → t last ≡ false →
    way f p ps last ≡ pos 0
way_none f t each p [] last hp hps hl = each p last hp hl
way_none f t each p (q ∷ qs) last hp hps hl =
    let (hq, hqs) = or_parts (t q) (list_any t qs) hps in
    let first = each p q hp hq in
    let rest = way_none f t each q qs last hq hqs hl in omega (arith, ints, first, rest)

ring_none : (px py : ℤ) (t : PointValue → Bool) →
    ((p q : PointValue) → t p ≡ false → t q ≡ false → turn_of px py (p, q) ≡ pos 0) →
    (ring : List PointValue) → list_any t ring ≡ false → ring_winding px py ring ≡ pos 0
unfolding ring_winding
ring_none px py t each [] none = refl
ring_none px py t each (p ∷ ps) none =
    let (here, rest) = or_parts (t p) (list_any t ps) none in
    ring_is_way px py p ps ∙ way_none (turn_of px py) t each p ps p here rest here

all_left : (px : ℤ) (ring : List PointValue) → list_any (λ (p : PointValue). int_lt px p.x) ring ≡ false →
    list_all (λ (p : PointValue). int_le p.x px) ring ≡ true
all_left px [] none = refl
all_left px (p ∷ ps) none =
    let (here, rest) = or_parts (int_lt px p.x) (list_any (λ (q : PointValue). int_lt px q.x) ps) none in
    and_from (int_le p.x px) (list_all (λ (q : PointValue). int_le q.x px) ps) (grind (arith, ints, here))
    (all_left px ps rest)

-- a ring at or left of px has no winding number there
left_ring_none : (px py : ℤ) (ring : List PointValue) → list_any (λ (p : PointValue). int_lt px p.x) ring ≡ false →
    ring_winding px py ring ≡ pos 0
unfolding ring_winding
left_ring_none px py [] none = refl
left_ring_none px py (p ∷ ps) none =
    let (here, rest) = and_parts (int_le p.x px) (list_all (λ (q : PointValue). int_le q.x px) ps)
    (all_left px (p ∷ ps) none) in
    let round = way_rises (turn_of px py) (step_at py) (λ (q : PointValue). int_le q.x px)
    (left_counts_step px py) p ps p here rest here in
    let start = step_at py p in
    ring_is_way px py p ps ∙ (round ∙ (let same : (start -ℤ start) ≡ pos 0 = omega (arith, ints) in same))

none_inside : (rule : Rule) (w : ℤ) → w ≡ pos 0 → is_inside rule w ≡ true → ⊥
none_inside Nonzero w zero holds = false≢true (rw zero at holds)
none_inside EvenOdd w zero holds = false≢true (rw zero at holds)

-- where rings hold a centre, one of them is no ring that has no winding number there
ring_needed : (rule : Rule) (rings : List (List PointValue)) (row col : ℕ) (t : List PointValue → Bool) →
    ((ring : List PointValue) → t ring ≡ false → ring_winding (centre col) (centre row) ring ≡ pos 0) →
    rings_hold rule rings row col ≡ true → list_any t rings ≡ true
unfolding winding
ring_needed rule rings row col t each holds =
    true_from_ne_false (list_any t rings)
    (λ none. none_inside rule (winding (centre col) (centre row) rings)
    (total_none (ring_winding (centre col) (centre row)) t each rings none) holds)

-- rings hold no centre above all of their points, or below them, or beside them
pub rings_start_by : (rule : Rule) (rings : List (List PointValue)) (row col : ℕ) →
    rings_hold rule rings row col ≡ true → list_any (list_any (λ (p : PointValue). int_le p.y (centre row))) rings
    ≡ true
rings_start_by rule rings row col = ring_needed rule rings row col
    (list_any (λ (p : PointValue). int_le p.y (centre row)))
    (ring_none (centre col) (centre row) (λ (p : PointValue). int_le p.y (centre row))
    (below_counts_none (centre col) (centre row)))

-- where rings hold a centre, a point of them is at its height or below
pub rings_end_from : (rule : Rule) (rings : List (List PointValue)) (row col : ℕ) →
    rings_hold rule rings row col ≡ true → list_any (list_any (λ (p : PointValue). int_le (centre row) p.y)) rings
    ≡ true
rings_end_from rule rings row col = ring_needed rule rings row col
    (list_any (λ (p : PointValue). int_le (centre row) p.y))
    (ring_none (centre col) (centre row) (λ (p : PointValue). int_le (centre row) p.y)
    (above_counts_none (centre col) (centre row)))

-- where rings hold a centre, a point of them is at its column or left of it
pub rings_left_of : (rule : Rule) (rings : List (List PointValue)) (row col : ℕ) →
    rings_hold rule rings row col ≡ true → list_any (list_any (λ (p : PointValue). int_le p.x (centre col))) rings
    ≡ true
rings_left_of rule rings row col = ring_needed rule rings row col
    (list_any (λ (p : PointValue). int_le p.x (centre col)))
    (ring_none (centre col) (centre row) (λ (p : PointValue). int_le p.x (centre col))
    (right_counts_none (centre col) (centre row)))

-- where rings hold a centre, a point of them is right of it
pub rings_right_of : (rule : Rule) (rings : List (List PointValue)) (row col : ℕ) →
    rings_hold rule rings row col ≡ true → list_any (list_any (λ (p : PointValue). int_lt (centre col) p.x)) rings
    ≡ true
rings_right_of rule rings row col = ring_needed rule rings row col
    (list_any (λ (p : PointValue). int_lt (centre col) p.x)) (left_ring_none (centre col) (centre row))

-- a ring of at most two points has no winding number anywhere
short_ring_none : (px py : ℤ) (ring : List PointValue) → nat_lt 2 (length ring) ≡ false →
    ring_winding px py ring ≡ pos 0
unfolding ring_winding
short_ring_none px py [] short = refl
short_ring_none px py (p ∷ []) short = ring_is_way px py p []
    ∙ (let same = turned_round px py p p in omega (arith, ints, same))
short_ring_none px py (p ∷ q ∷ []) short = ring_is_way px py p (q ∷ [])
    ∙ (let back = turned_round px py p q in omega (arith, ints, back))
short_ring_none px py (p ∷ q ∷ r ∷ ps) short = absurd (omega (arith, ltb-false 2 (length (p ∷ q ∷ r ∷ ps)) short))

-- rings that hold a centre have a ring of at least three points
pub rings_are_long : (rule : Rule) (rings : List (List PointValue)) (row col : ℕ) →
    rings_hold rule rings row col ≡ true → list_any (λ ring. nat_lt 2 (length ring)) rings ≡ true
rings_are_long rule rings row col = ring_needed rule rings row col (λ ring. nat_lt 2 (length ring))
    (short_ring_none (centre col) (centre row))

-- two rings with one edge in opposite directions have together the winding number of the ring round both
pub shared_edge : (px py : ℤ) (a b : PointValue) (ps qs : List PointValue) →
    ring_winding px py (a ∷ b ∷ ps) +ℤ ring_winding px py (b ∷ a ∷ qs) ≡ ring_winding px py ((b ∷ ps) ++ (a ∷ qs))
shared_edge px py a b ps qs =
    let one = ring_is_way px py a (b ∷ ps) in
    let other = ring_is_way px py b (a ∷ qs) in
    let both = ring_is_way px py b (ps ++ a ∷ qs) in
    let parts = way_by (turn_of px py) b ps a qs b in
    let back = turned_round px py a b in
    omega (arith, ints, one, other, both, parts, back)

winding_of_one : (px py : ℤ) (ring : List PointValue) → winding px py (ring ∷ []) ≡ ring_winding px py ring
unfolding winding
winding_of_one px py ring = let w = ring_winding px py ring in let same : (pos 0 +ℤ w) ≡ w = omega (arith, ints) in same

not_zero : (w : ℤ) → is_inside Nonzero w ≡ true → 0 < unsigned_abs w
not_zero w holds = let apart = eqb-false (unsigned_abs w) 0 (not-true (unsigned_abs w == 0) holds) in omega arith

not_both : (w v j : ℤ) → GoOneWay w v → unsigned_abs j ≤ 1 → w +ℤ v ≡ j → is_inside Nonzero w ≡ true →
    is_inside Nonzero v ≡ true → ⊥
not_both w v j (inl upward) once sum first second =
    two_apart w v j upward once sum (not_zero w first) (not_zero v second)
  where
    two_apart : (w v j : ℤ) → (pos 0 ≤ℤ w) × (pos 0 ≤ℤ v) → unsigned_abs j ≤ 1 → w +ℤ v ≡ j → 0 < unsigned_abs w →
        0 < unsigned_abs v → ⊥
    two_apart w v j both once sum first second = omega (arith, ints)
not_both w v j (inr downward) once sum first second =
    two_apart w v j downward once sum (not_zero w first) (not_zero v second)
  where
    two_apart : (w v j : ℤ) → (w ≤ℤ pos 0) × (v ≤ℤ pos 0) → unsigned_abs j ≤ 1 → w +ℤ v ≡ j → 0 < unsigned_abs w →
        0 < unsigned_abs v → ⊥
    two_apart w v j both once sum first second = omega (arith, ints)

-- of two polygons with one edge in opposite directions, which go round a centre one way and together at most once, one
-- at most holds it
pub once_nonzero : (row col : ℕ) (a b : PointValue) (ps qs : List PointValue) →
    GoOneWay (ring_winding (centre col) (centre row) (a ∷ b ∷ ps))
    (ring_winding (centre col) (centre row) (b ∷ a ∷ qs)) →
    unsigned_abs (ring_winding (centre col) (centre row) ((b ∷ ps) ++ (a ∷ qs))) ≤ 1 →
    rings_hold Nonzero ((a ∷ b ∷ ps) ∷ []) row col ≡ true → rings_hold Nonzero ((b ∷ a ∷ qs) ∷ []) row col ≡ true → ⊥
once_nonzero row col a b ps qs one_way once first second =
    not_both (ring_winding (centre col) (centre row) (a ∷ b ∷ ps))
    (ring_winding (centre col) (centre row) (b ∷ a ∷ qs)) _ one_way once
    (shared_edge (centre col) (centre row) a b ps qs)
    (rw (winding_of_one (centre col) (centre row) (a ∷ b ∷ ps)) at first)
    (rw (winding_of_one (centre col) (centre row) (b ∷ a ∷ qs)) at second)

odd_sum : (a b c : ℤ) → a +ℤ b ≡ c → is_inside EvenOdd a ≡ true → is_inside EvenOdd b ≡ true →
    is_inside EvenOdd c ≡ true → ⊥
odd_sum a b c sum one other both =
    let odd_a : unsigned_abs a % 2 ≡ 1 = eqb-true (unsigned_abs a % 2) 1 one in
    let odd_b : unsigned_abs b % 2 ≡ 1 = eqb-true (unsigned_abs b % 2) 1 other in
    let odd_c : unsigned_abs c % 2 ≡ 1 = eqb-true (unsigned_abs c % 2) 1 both in
    omega (arith, ints)

-- by the even-odd rule both hold it only where the ring round both doesn't
pub once_even_odd : (row col : ℕ) (a b : PointValue) (ps qs : List PointValue) →
    rings_hold EvenOdd ((a ∷ b ∷ ps) ∷ []) row col ≡ true → rings_hold EvenOdd ((b ∷ a ∷ qs) ∷ []) row col ≡ true →
    rings_hold EvenOdd (((b ∷ ps) ++ (a ∷ qs)) ∷ []) row col ≡ true → ⊥
once_even_odd row col a b ps qs first second both =
    odd_sum (ring_winding (centre col) (centre row) (a ∷ b ∷ ps))
    (ring_winding (centre col) (centre row) (b ∷ a ∷ qs)) _ (shared_edge (centre col) (centre row) a b ps qs)
    (rw (winding_of_one (centre col) (centre row) (a ∷ b ∷ ps)) at first)
    (rw (winding_of_one (centre col) (centre row) (b ∷ a ∷ qs)) at second)
    (rw (winding_of_one (centre col) (centre row) ((b ∷ ps) ++ (a ∷ qs))) at both)
