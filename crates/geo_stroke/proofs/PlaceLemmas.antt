-- Places on chains of segments.
use Rattle.std.proofs.Common.{◌≡◌, ℕ, zero, suc, ◌+◌, ◌-◌, ◌*◌, ◌<◌, ◌≤◌, ◌^◌, arith, refl, ap, sym, subst, ◌∙◌, List}
use Rattle.std.proofs.Common.{[], ◌∷◌, ◌++◌, append_assoc, append-nil, nat_lt, length, take}
use Rattle.std.specs.Prelude.{ℤ, pos, negsuc, ◌+ℤ◌, ◌*ℤ◌, ◌≤ℤ◌, ◌<ℤ◌, unsigned_abs, if◌then◌else◌}
use Rattle.std.proofs.lemmas.Int.{ints}
use Rattle.std.proofs.lemmas.Bool.{le-leb, lt-leb, le-ltb}
use Rattle.std.proofs.Math.Bool.{and-true, and-false}
use Rattle.std.proofs.Math.Nat.{mul-le-mul_left}
use Rattle.std.proofs.Math.ListN.{get_or}
use Rattle.std.proofs.Math.Seq.{take-suc}
use Rattle.std.proofs.lemmas.Grind.{flat_map-append}
use Rattle.std.specs.List.{flat_map}
use Rattle.page_model.specs.declared.shape.Shape.{Shape}
use Rattle.press_nums.specs.Rounding.{IsNearest}
use Rattle.press_fault.specs.Plane.{PointValue}
use Rattle.geo_stroke.specs.Segment.{LineSegmentValue, fine_length_of}
use Rattle.geo_stroke.specs.Dash.{LinePlace, place_on, place_from, corners_from, total_of, point_at, dash_points}
use Rattle.geo_stroke.specs.Dash.{dash_shapes}
use Rattle.proof_words.proofs.Cases.{by_le}
use Rattle.geo_stroke.specs.Code.Cursor.{IsAhead, IsCursor, later_by}
use Rattle.geo_stroke.specs.declared.dash.Dash.{Dash}
use Rattle.geo_stroke.specs.Pen.{PenValue}

-- a part of a step, rounded, lies between 0 and the step
positive_most : (n t l k : ℕ) → 0 < l → t ≤ l → l * 2 * k ≤ n * t * 2 + l → k ≤ n
positive_most n t l k some h f = by_le k n (λ e. e)
    (λ e. let m : n * t ≤ n * l = mul-le-mul_left n h in
    let more : l * (n + 1) ≤ l * k = mul-le-mul_left l (omega arith) in absurd (omega (arith, f, m, more, some)))

positive_way : (n t l : ℕ) (q : ℤ) → 0 < l → t ≤ l → IsNearest (pos n *ℤ pos t) (pos l) q → (pos 0 ≤ℤ q) × (q ≤ℤ pos n)
positive_way n t l (negsuc k) some h i = let g = i.greatest (pos 0) (omega (arith, ints)) in
    absurd (omega (arith, ints, g))
positive_way n t l (pos k) some h i =
    let f = i.fits in let g : l * 2 * k ≤ n * t * 2 + l = omega (arith, ints, f) in let e =
    positive_most n t l k some h g in
    (omega (arith, ints), omega (arith, ints, e))

not_positive : (n t l : ℕ) (q : ℤ) → 0 < l → (pos l *ℤ pos 2 *ℤ q) ≤ℤ (negsuc n *ℤ pos t *ℤ pos 2 +ℤ pos l) → q ≤ℤ pos 0
not_positive n t l (negsuc k) some f = omega (arith, ints)
not_positive n t l (pos zero) some f = omega (arith, ints)
not_positive n t l (pos (suc k)) some f =
    let more : l * 1 ≤ l * suc k = mul-le-mul_left l (omega arith) in absurd (omega (arith, ints, f, more, some))

negative_way : (n t l : ℕ) (q : ℤ) → 0 < l → t ≤ l → IsNearest (negsuc n *ℤ pos t) (pos l) q → (negsuc n ≤ℤ q) ×
    (q ≤ℤ pos 0)
negative_way n t l q some h i =
    let m : suc n * t ≤ suc n * l = mul-le-mul_left (suc n) h in
    let f = i.fits in
    (i.greatest (negsuc n) (omega (arith, ints, m)), not_positive n t l q some f)

near_by : (p d q : ℤ) (t l : ℕ) → 0 < l → t ≤ l → unsigned_abs p < 2 ^ 31 → unsigned_abs (p +ℤ d) < 2 ^ 31 →
    IsNearest (d *ℤ pos t) (pos l) q → unsigned_abs (p +ℤ q) < 2 ^ 31
near_by p (pos n) q t l some h f g i = let w = positive_way n t l q some h i in let a : pos 0 ≤ℤ q = w.0 in
    let b : q ≤ℤ pos n = w.1 in omega (arith, ints)
near_by p (negsuc n) q t l some h f g i = let w = negative_way n t l q some h i in let a : negsuc n ≤ℤ q = w.0 in
    let b : q ≤ℤ pos 0 = w.1 in omega (arith, ints)

-- so a point on a segment is as near as its ends
pub way_near : (p d n w q : ℤ) (t : ℕ) → pos 0 <ℤ w → t ≤ unsigned_abs w → unsigned_abs p < 2 ^ 31 →
    unsigned_abs (p +ℤ d) < 2 ^ 31 → n ≡ d *ℤ pos t → IsNearest n w q → unsigned_abs (p +ℤ q) < 2 ^ 31
way_near p d n (pos l) q t some h f g e i =
    near_by p d q t l (omega (arith, ints)) h f g (subst (λ (m : ℤ). IsNearest m (pos l) q) e i)
way_near p d n (negsuc l) q t some h f g e i = absurd (omega (arith, ints))

-- a distance beyond a segment's end lies on those behind it
place_passes : (s next : LineSegmentValue) (tail : List LineSegmentValue) (d : ℕ) → fine_length_of s < d →
    place_from s (next ∷ tail) d ≡ place_from next tail (d - fine_length_of s)
place_passes s next tail d h = rw (lt-leb d (fine_length_of s) h) refl

-- and one that isn't lies on the segment
pub place_here : (s : LineSegmentValue) (rest : List LineSegmentValue) (d : ℕ) → d ≤ fine_length_of s →
    place_from s rest d ≡ place_on s d
place_here s [] d h = refl
place_here s (next ∷ tail) d h = rw (le-leb d (fine_length_of s) h) refl

corners_pass : (s next : LineSegmentValue) (tail : List LineSegmentValue) (a b : ℕ) → fine_length_of s < a →
    corners_from s (next ∷ tail) a b ≡ corners_from next tail (a - fine_length_of s) (b - fine_length_of s)
corners_pass s next tail a b h = rw (le-ltb a (fine_length_of s) (omega arith)) refl

sub_sub : (a b c : ℕ) → a - b - c ≡ a - (b + c)
sub_sub a b c = omega arith

-- one segment further
ahead_next : (s : LineSegmentValue) (all : List LineSegmentValue) (here next : LineSegmentValue)
    (tail : List LineSegmentValue) (p t : ℕ) →
    IsAhead s all here (next ∷ tail) p t → p + fine_length_of here < t →
    IsAhead s all next tail (p + fine_length_of here) t
ahead_next s all here next tail p t a h = record {
  place = λ u e. a.place u e ∙ (place_passes here next tail (u - p) (omega arith)
      ∙ ap (λ (d : ℕ). place_from next tail d) (sub_sub u p (fine_length_of here)));
  corners = λ b. a.corners b ∙ (corners_pass here next tail (t - p) (b - p) (omega arith)
      ∙ (ap (λ (d : ℕ). corners_from next tail d (b - p - fine_length_of here)) (sub_sub t p (fine_length_of here))
      ∙ ap (λ (d : ℕ). corners_from next tail (t - (p + fine_length_of here)) d) (sub_sub b p (fine_length_of here))));
}

-- one segment further along a chain, the same distances lie ahead
pub ahead_on : (s : LineSegmentValue) (all : List LineSegmentValue) (here next : LineSegmentValue)
    (rest tail : List LineSegmentValue) (p q t : ℕ) →
    rest ≡ next ∷ tail → q ≡ fine_length_of here → fine_length_of here < t - p → IsAhead s all here rest p t →
    IsAhead s all next tail (p + q) t
ahead_on s all here next rest tail p q t e f h a =
    rw f (ahead_next s all here next tail p t (subst (λ (r : List LineSegmentValue). IsAhead s all here r p t) e a)
    (omega arith))

-- one segment further along a chain is a cursor on it again
pub cursor_on : (s : LineSegmentValue) (all : List LineSegmentValue) (here next : LineSegmentValue)
    (rest tail : List LineSegmentValue) (p q : ℕ) →
    rest ≡ next ∷ tail → q ≡ fine_length_of here → IsCursor s all here rest p → IsCursor s all next tail (p + q)
cursor_on s all here next rest tail p q e f c =
    let d = subst (λ (r : List LineSegmentValue). IsCursor s all here r p) e c in record {
      total = let g = d.total in omega arith;
      ahead = λ t h. rw f (ahead_next s all here next tail p t (d.ahead t (omega arith)) (omega arith));
    }

-- what is left of what is left
pub ahead_through : (s : LineSegmentValue) (all : List LineSegmentValue) (h : LineSegmentValue)
    (r : List LineSegmentValue) (p : ℕ) (h2 : LineSegmentValue) (r2 : List LineSegmentValue) (p2 t : ℕ) →
    IsAhead s all h r p t → IsAhead h r h2 r2 p2 (t - p) → IsAhead s all h2 r2 (p + p2) t
ahead_through s all h r p h2 r2 p2 t a b = record {
  place = λ u e. a.place u e ∙ (b.place (u - p) (omega arith) ∙ ap (λ (d : ℕ). place_from h2 r2 d) (sub_sub u p p2));
  corners = λ e. a.corners e ∙ (b.corners (e - p)
      ∙ (ap (λ (d : ℕ). corners_from h2 r2 d (e - p - p2)) (sub_sub t p p2)
      ∙ ap (λ (d : ℕ). corners_from h2 r2 (t - (p + p2)) d) (sub_sub e p p2)));
}

-- a cursor on what is left of a chain is a cursor on the chain
pub cursor_through : (s : LineSegmentValue) (all : List LineSegmentValue) (h : LineSegmentValue)
    (r : List LineSegmentValue) (p : ℕ) (h2 : LineSegmentValue) (r2 : List LineSegmentValue) (p2 : ℕ) →
    IsCursor s all h r p → IsCursor h r h2 r2 p2 → IsCursor s all h2 r2 (p + p2)
cursor_through s all h r p h2 r2 p2 a b = record {
  total = let e = a.total in let f = b.total in omega arith;
  ahead = λ t e. ahead_through s all h r p h2 r2 p2 t (a.ahead t (omega arith)) (b.ahead (t - p) (omega arith));
}

-- the corners and the end of a dash that are left
abbrev pub points_left : LineSegmentValue → List LineSegmentValue → ℕ → ℕ → List PointValue
points_left s rest from to = corners_from s rest from to ++ point_at (place_from s rest to) ∷ []

-- a dash's points are the first one and what is left
pub points_start : (s : LineSegmentValue) (rest : List LineSegmentValue) (from to : ℕ) → from ≤ fine_length_of s →
    dash_points s rest from to ≡ point_at (place_on s from) ∷ points_left s rest from to
points_start s rest from to h = ap (λ (p : LinePlace). point_at p ∷ points_left s rest from to)
    (place_here s rest from h)

corner_next : (s next : LineSegmentValue) (tail : List LineSegmentValue) (from to : ℕ) → fine_length_of s < to →
    corners_from s (next ∷ tail) from to ≡ (if nat_lt from (fine_length_of s) then s.to ∷ [] else [])
    ++ corners_from next tail (from - fine_length_of s) (to - fine_length_of s)
corner_next s next tail from to h = rw (le-leb (suc (fine_length_of s)) to (omega arith))
    (rw (and-true (nat_lt from (fine_length_of s))) refl)

-- one segment further
pub points_next : (s next : LineSegmentValue) (rest tail : List LineSegmentValue) (from to q : ℕ) → rest ≡ next ∷ tail →
    q ≡ fine_length_of s → fine_length_of s < to →
    points_left s rest from to ≡ (if nat_lt from q then s.to ∷ [] else []) ++ points_left next tail (from - q) (to - q)
points_next s next rest tail from to q e f h = rw (e, f)
    (ap (λ (l : List PointValue). l ++ point_at (place_from s (next ∷ tail) to) ∷ [])
    (corner_next s next tail from to h)
    ∙ (append_assoc (if nat_lt from (fine_length_of s) then s.to ∷ [] else [])
    (corners_from next tail (from - fine_length_of s) (to - fine_length_of s))
    (point_at (place_from s (next ∷ tail) to) ∷ [])
    ∙ ap (λ (p : LinePlace). (if nat_lt from (fine_length_of s) then s.to ∷ [] else [])
    ++ (corners_from next tail (from - fine_length_of s) (to - fine_length_of s) ++ point_at p ∷ []))
    (place_passes s next tail to h)))

no_corners : (s : LineSegmentValue) (rest : List LineSegmentValue) (from to : ℕ) → to ≤ fine_length_of s →
    corners_from s rest from to ≡ []
no_corners s [] from to h = refl
no_corners s (next ∷ tail) from to h =
    rw (le-ltb (fine_length_of s) to h) (rw (and-false (nat_lt from (fine_length_of s)))
    (no_corners next tail (from - fine_length_of s) (to - fine_length_of s) (omega arith)))

-- a dash that ends on this segment has no corner left
pub points_end : (s : LineSegmentValue) (rest : List LineSegmentValue) (from to : ℕ) → to ≤ fine_length_of s →
    points_left s rest from to ≡ point_at (place_on s to) ∷ []
points_end s rest from to h = rw (no_corners s rest from to h)
    (ap (λ (p : LinePlace). point_at p ∷ []) (place_here s rest to h))

-- the points of a dash begin with the place where it begins
pub points_begin : (s : LineSegmentValue) (rest : List LineSegmentValue) (from to : ℕ) (points none : List PointValue)
    (p : PointValue) → from ≤ fine_length_of s →
    none ≡ [] → p ≡ point_at (place_on s from) → points ≡ none ++ p ∷ [] → dash_points s rest from to ≡ points
    ++ points_left s rest from to
points_begin s rest from to points none p h n e m = rw (m, n, e) (points_start s rest from to h)

-- the points of a dash are done with the place where it ends
pub points_done : (s : LineSegmentValue) (rest : List LineSegmentValue) (from to : ℕ)
    (whole points new : List PointValue) (p : PointValue) → to ≤ fine_length_of s →
    whole ≡ points ++ points_left s rest from to → p ≡ point_at (place_on s to) → new ≡ points ++ p ∷ [] → new ≡ whole
points_done s rest from to whole points new p h w e n =
    n ∙ sym (w ∙ ap (λ (l : List PointValue). points ++ l)
    (points_end s rest from to h ∙ ap (λ (q : PointValue). q ∷ []) (sym e)))

-- the length of two chains in a row
pub total_append : (xs ys : List LineSegmentValue) → total_of (xs ++ ys) ≡ total_of xs + total_of ys
total_append [] ys = omega arith
total_append (x ∷ xs) ys = let e = total_append xs ys in omega arith

-- what a dash paints is found from any place on the chain that isn't beyond its start
pub dash_ahead : (pen : PenValue) (s here : LineSegmentValue) (all rest : List LineSegmentValue) (passed : ℕ)
    (dash : Dash) → IsAhead s all here rest passed dash.from → dash.from ≤ dash.to →
    dash_shapes pen here rest (later_by passed dash) ≡ dash_shapes pen s all dash
dash_ahead pen s here all rest passed dash a h =
    rw (a.place dash.from (omega arith), a.place dash.to h, a.corners dash.to) refl

-- the shapes of one dash more
next_dash : (f : Dash → List Shape) (dashes : List Dash) (k : ℕ) (d : Dash) → k < length dashes →
    flat_map f (take (k + 1) dashes) ≡ flat_map f (take k dashes) ++ f (get_or dashes k d)
next_dash f dashes k d h =
    let one : k + 1 ≡ suc k = omega arith in
    ap (flat_map f) (ap (λ n. take n dashes) one ∙ take-suc dashes k d h)
    ∙ flat_map-append f (take k dashes) (get_or dashes k d ∷ [])
    ∙ ap (λ t. flat_map f (take k dashes) ++ t) (append-nil (f (get_or dashes k d)))

-- the shapes of the first dashes and those of the next one are the shapes of one dash more
pub dashes_next : (f : Dash → List Shape) (dashes : List Dash) (k : ℕ) (d : Dash) (old now new more : List Shape) →
    k < length dashes → now ≡ old ++ flat_map f (take k dashes) → new ≡ now ++ more → more ≡ f (get_or dashes k d) →
    new ≡ old ++ flat_map f (take (k + 1) dashes)
dashes_next f dashes k d old now new more h a b e =
    rw (next_dash f dashes k d h, b, a, e) (append_assoc old (flat_map f (take k dashes)) (f (get_or dashes k d)))
