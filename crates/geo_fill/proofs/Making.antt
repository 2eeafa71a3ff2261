-- An edge made of a line.
use Rattle.std.proofs.Common.{inl, inr, false, ◌≡◌, ◌∙◌, ap, sym, subst, refl, ℕ, ◌+◌, ◌-◌, ◌*◌, ◌^◌, ◌<◌, ◌≤◌, Bool}
use Rattle.std.proofs.Common.{true, ◌&&◌, ◌||◌, IsTrue, arith}
use Rattle.std.specs.Prelude.{ℤ, pos, negsuc, ◌*ℤ◌, ◌+ℤ◌, ◌-ℤ◌, ◌≤ℤ◌, ◌<ℤ◌, neg_ℤ, unsigned_abs, int_le, int_lt, nat_le}
use Rattle.std.specs.Prelude.{if◌then◌else◌}
use Rattle.std.proofs.lemmas.Int.{ints}
use Rattle.std.proofs.lemmas.Bool.{or_cases, and_left, and_right}
use Rattle.std.proofs.lemmas.Bool.Decides.{nat_tests}
use Rattle.std.proofs.Math.Nat.{mul-le-mul, mul-le-mul_left}
use Rattle.press_nums.proofs.Products.{over_sum, in_threes, not_yet}
use borrow.Author.Differences.{down}
use Rattle.press_fault.specs.Plane.{PointValue, IsWithin}
use Rattle.page_model.specs.Inside.{centre, crosses_left, is_between}
use Rattle.geo_fill.proofs.Moving.{near_by}
use Rattle.geo_fill.specs.declared.edge.Edge.{Edge}
use Rattle.geo_fill.specs.Walk.{reach_in, turn_in, edge_turn}
use Rattle.geo_fill.specs.Code.WalkSteps.{IsPlacedAt, IsMadeOf, line_turn, line_place}

-- what is divided to make an edge of a rise that is positive
pub record IsDividedBy (place run : ℤ) (k : ℕ) (quotient rest step part : ℤ) : Type 0 where
  pub across : neg_ℤ place ≡ (pos (k * 256) *ℤ quotient +ℤ rest)
  pub rest_low : pos 0 ≤ℤ rest
  pub rest_high : rest <ℤ pos (k * 256)
  pub along : run ≡ (pos k *ℤ step +ℤ part)
  pub part_low : pos 0 ≤ℤ part
  pub part_high : part <ℤ pos k

-- the column and what is over give the place
place_of : (place run : ℤ) (k : ℕ) (quotient rest step part col : ℤ) → IsDividedBy place run k quotient rest step part →
    col ≡ neg_ℤ quotient → (pos (k * 256) *ℤ col -ℤ pos (unsigned_abs rest)) ≡ place
place_of place run k quotient rest step part col is minus =
    let none : pos 0 ≡ (col +ℤ quotient) = omega (arith, ints, minus) in
    let e = over_sum (pos (k * 256)) col quotient (pos 0) none in
    let across = is.across in
    let low = is.rest_low in
    omega (arith, ints, e, across, low)

growth_of : (place run : ℤ) (k : ℕ) (quotient rest step part : ℤ) → IsDividedBy place run k quotient rest step part →
    (pos (k * 256) *ℤ step +ℤ pos (unsigned_abs (part *ℤ pos 256))) ≡ (run *ℤ pos 256)
growth_of place run k quotient rest step part is =
    let along = is.along in
    let low = is.part_low in
    omega (arith, ints, along, low)

slope_of : (run : ℤ) (k : ℕ) (step part : ℤ) → run ≡ (pos k *ℤ step +ℤ part) → pos 0 ≤ℤ part → part <ℤ pos k →
    unsigned_abs step ≤ unsigned_abs run
slope_of run k (pos a) part is low high =
    let some : 1 ≤ k = omega (arith, ints) in
    let m : 1 * a ≤ k * a = mul-le-mul some (let e : a ≤ a = omega arith in e) in
    omega (arith, ints, is, m)
slope_of run k (negsuc a) part is low high =
    let some : 1 ≤ k = omega (arith, ints) in
    let m : 1 * a ≤ k * a = mul-le-mul some (let e : a ≤ a = omega arith in e) in
    omega (arith, ints, is, m)

-- a place that is at most 2^46 times the rise gives a quotient of at most 2^38 + 1
pub quotient_near : (place run : ℤ) (k : ℕ) (quotient rest step part : ℤ) →
    IsDividedBy place run k quotient rest step part → unsigned_abs place ≤ k * 2 ^ 46 →
    unsigned_abs quotient ≤ 2 ^ 38 + 1
quotient_near place run k quotient rest step part is near =
    let e = place_of place run k quotient rest step part (neg_ℤ quotient) is refl in
    let less : unsigned_abs rest < k * 256 = omega (arith, ints, is.rest_low, is.rest_high) in
    let m : unsigned_abs (pos (k * 256) *ℤ neg_ℤ quotient -ℤ pos (unsigned_abs rest)) ≤ (k * 256) * 2 ^ 38 =
    subst (λ z. unsigned_abs z ≤ (k * 256) * 2 ^ 38) (sym e) (omega (arith, near)) in
    let n = near_by (k * 256) (unsigned_abs rest) (neg_ℤ quotient) less m in
    omega (arith, ints, n)

pub edge_placed : (place run : ℤ) (k row last : ℕ) (quotient rest step part col : ℤ) (rises : Bool) →
    IsDividedBy place run k quotient rest step part → col ≡ neg_ℤ quotient → k < 2 ^ 46 → unsigned_abs run < 2 ^ 46 →
    row ≤ last → last < 4294967296 → ((j : ℕ) → row ≤ j → j ≤ last →
    unsigned_abs (place +ℤ (pos j -ℤ pos row) *ℤ (run *ℤ pos 256)) ≤ k * 2 ^ 46) →
    IsPlacedAt place (pos k) run rises row last
    (record {
      col = col;
      step = step;
      over = unsigned_abs rest;
      part = unsigned_abs (part *ℤ pos 256);
      span =
          k * 256;
      row = row;
      last = last;
      rises = rises;
    })
unfolding reach_in
edge_placed place run k row last quotient rest step part col rises is minus small slope order numbered near = record {
  begins = refl;
  ends = refl;
  goes = refl;
  edge = record {
    over = omega (arith, ints, is.rest_low, is.rest_high);
    part = omega (arith, ints, is.part_low, is.part_high);
    size = omega arith;
    slope = (let s = slope_of run k step part is.along is.part_low is.part_high in omega (arith, s));
    order = order;
    numbered = numbered;
    near = λ j late early. subst (λ z. unsigned_abs z ≤ (k * 256) * 2 ^ 38) (sym (whole j))
        (let n = near j late early in omega (arith, n));
  };
  width = omega (arith, ints);
  reach = whole;
}
  where
    whole : (j : ℕ) → ((pos (k * 256) *ℤ col -ℤ pos (unsigned_abs rest)) +ℤ (pos j -ℤ pos row) *ℤ
        (pos (k * 256) *ℤ step +ℤ pos (unsigned_abs (part *ℤ pos 256))))
        ≡ (place +ℤ (pos j -ℤ pos row) *ℤ (run *ℤ pos 256))
    whole j =
        ap (λ z. z +ℤ (pos j -ℤ pos row) *ℤ (pos (k * 256) *ℤ step +ℤ pos (unsigned_abs (part *ℤ pos 256))))
        (place_of place run k quotient rest step part col is minus)
        ∙ ap (λ g. place +ℤ (pos j -ℤ pos row) *ℤ g) (growth_of place run k quotient rest step part is)

-- along a line its places grow by a row's height
along_line : (p t t' d dx m : ℤ) → t' ≡ (t +ℤ d *ℤ pos 256) →
    (((p +ℤ t *ℤ dx) -ℤ m) +ℤ d *ℤ (dx *ℤ pos 256)) ≡ ((p +ℤ t' *ℤ dx) -ℤ m)
along_line p t t' d dx m is =
    let e = over_sum dx t (d *ℤ pos 256) t' is in
    let f = in_threes d (pos 256) dx in
    let g : (d *ℤ (pos 256 *ℤ dx)) ≡ (d *ℤ (dx *ℤ pos 256)) =
    ap (λ z. d *ℤ z) (let h : (pos 256 *ℤ dx) ≡ (dx *ℤ pos 256) = omega (arith, ints) in h) in
    let h : (dx *ℤ (d *ℤ pos 256)) ≡ ((d *ℤ pos 256) *ℤ dx) = omega (arith, ints) in
    omega (arith, ints, e, f, g, h)

height_grows : (row k : ℕ) (y : ℤ) → (centre k -ℤ y) ≡ ((centre row -ℤ y) +ℤ (pos k -ℤ pos row) *ℤ pos 256)
height_grows row k y = further (pos k -ℤ pos row) refl
  where
    further : (d : ℤ) → d ≡ (pos k -ℤ pos row) → (centre k -ℤ y) ≡ ((centre row -ℤ y) +ℤ d *ℤ pos 256)
    further d is = omega (arith, ints, is)

pub place_grows : (low high : PointValue) (row k : ℕ) →
    (line_place low high (centre row) +ℤ (pos k -ℤ pos row) *ℤ ((high.x -ℤ low.x) *ℤ pos 256))
    ≡ line_place low high (centre k)
unfolding line_place
place_grows low high row k =
    along_line (low.x *ℤ (high.y -ℤ low.y)) (centre row -ℤ low.y) (centre k -ℤ low.y) (pos k -ℤ pos row)
    (high.x -ℤ low.x) ((high.y -ℤ low.y) *ℤ pos 128) (height_grows row k low.y)

-- between its ends a line is near
near_line : (x dx : ℤ) (d t : ℕ) → unsigned_abs x < 2 ^ 44 → unsigned_abs dx ≤ 2 ^ 45 → t ≤ d →
    unsigned_abs ((x *ℤ pos d +ℤ pos t *ℤ dx) -ℤ pos d *ℤ pos 128) ≤ d * 2 ^ 46
near_line (pos a) (pos b) d t small wide less =
    let one : d * a ≤ d * 2 ^ 44 = mul-le-mul_left d (omega (arith, ints)) in
    let two : t * b ≤ d * 2 ^ 45 = mul-le-mul less (omega (arith, ints)) in
    omega (arith, ints, one, two)
near_line (pos a) (negsuc b) d t small wide less =
    let one : d * a ≤ d * 2 ^ 44 = mul-le-mul_left d (omega (arith, ints)) in
    let two : t * (b + 1) ≤ d * 2 ^ 45 = mul-le-mul less (omega (arith, ints)) in
    omega (arith, ints, one, two)
near_line (negsuc a) (pos b) d t small wide less =
    let one : d * (a + 1) ≤ d * 2 ^ 44 = mul-le-mul_left d (omega (arith, ints)) in
    let two : t * b ≤ d * 2 ^ 45 = mul-le-mul less (omega (arith, ints)) in
    omega (arith, ints, one, two)
near_line (negsuc a) (negsuc b) d t small wide less =
    let one : d * (a + 1) ≤ d * 2 ^ 44 = mul-le-mul_left d (omega (arith, ints)) in
    let two : t * (b + 1) ≤ d * 2 ^ 45 = mul-le-mul less (omega (arith, ints)) in
    omega (arith, ints, one, two)

pub near_place : (low high : PointValue) (height : ℤ) → IsWithin low.x → unsigned_abs (high.x -ℤ low.x) ≤ 2 ^ 45 →
    int_le low.y height ≡ true → int_lt height high.y ≡ true →
    unsigned_abs (line_place low high height) ≤ unsigned_abs (high.y -ℤ low.y) * 2 ^ 46
unfolding line_place
near_place low high height small wide begins ends =
    by_size (high.y -ℤ low.y) (height -ℤ low.y) (unsigned_abs (high.y -ℤ low.y)) (unsigned_abs (height -ℤ low.y))
    (omega (arith, ints, begins, ends)) (omega (arith, ints, begins)) (omega (arith, ints, begins, ends))
  where
    by_size : (dy t : ℤ) (d n : ℕ) → dy ≡ pos d → t ≡ pos n → n ≤ d →
        unsigned_abs ((low.x *ℤ dy +ℤ t *ℤ (high.x -ℤ low.x)) -ℤ dy *ℤ pos 128) ≤ d * 2 ^ 46
    by_size dy t d n tall deep less = rw (tall, deep) (near_line low.x (high.x -ℤ low.x) d n small wide less)

-- whether a place is left of a column's centre
shifted : (a b c d : ℤ) → (a +ℤ d) ≡ (c +ℤ b) → int_le a b ≡ int_le c d
shifted a b c d is = grind (arith, ints)

crossed_at : (l dy : ℤ) (d span col : ℕ) → dy ≡ pos d → pos span ≡ (dy *ℤ pos 256) →
    int_le (l -ℤ dy *ℤ pos 128) (pos (span * col)) ≡ int_le l (centre col *ℤ dy)
crossed_at l dy d span col tall wide =
    let e : span ≡ d * 256 = omega (arith, ints, tall, wide) in
    rw (e, tall) (shifted (l -ℤ pos d *ℤ pos 128) (pos ((d * 256) * col)) l (centre col *ℤ pos d) (omega (arith, ints)))

-- an edge put at the place where a line crosses its first row, and growing as the line does, is made of that line
pub line_made : (low high : PointValue) (place dy dx : ℤ) (rises : Bool) (row last : ℕ) (e : Edge) →
    int_lt low.y high.y ≡ true → place ≡ line_place low high (centre row) → dy ≡ (high.y -ℤ low.y) →
    dx ≡ (high.x -ℤ low.x) → IsPlacedAt place dy dx rises row last e → IsMadeOf low high rises row last e
unfolding crosses_left line_place
line_made low high place dy dx rises row last e down is tall wide placed = record {
  begins = placed.begins;
  ends = placed.ends;
  goes = placed.goes;
  edge = placed.edge;
  crosses = λ k col.
      ap (λ z. int_le z (pos (e.span * col))) (placed.reach k
      ∙ (ap (λ z. z +ℤ (pos k -ℤ pos row) *ℤ (dx *ℤ pos 256)) is
      ∙ (ap (λ x. line_place low high (centre row) +ℤ (pos k -ℤ pos row) *ℤ (x *ℤ pos 256)) wide
      ∙ place_grows low high row k)))
      ∙ crossed_at (low.x *ℤ (high.y -ℤ low.y) +ℤ (centre k -ℤ low.y) *ℤ (high.x -ℤ low.x)) (high.y -ℤ low.y)
      (unsigned_abs (high.y -ℤ low.y)) e.span col (omega (arith, ints, down))
      (placed.width ∙ ap (λ z. z *ℤ pos 256) tall);
}

-- the last row before the first one that reaches a height is above it
pub last_within : (stop : ℕ) (y c : ℤ) → 0 < stop → nat_le stop (stop - 1) ≡ int_le y c → IsTrue (int_lt c y)
last_within stop y c some is = grind (arith, ints, nat_tests)

-- so it adds in each row what the line adds
before_stop : (stop row : ℕ) (y c : ℤ) → 0 < stop → nat_le stop row ≡ int_le y c → nat_le row (stop - 1) ≡ int_lt c y
before_stop stop row y c some is = grind (arith, ints, nat_tests)

same_turns : (a b c a' b' c' rises rises' : Bool) → a ≡ a' → b ≡ b' → c ≡ c' → rises ≡ rises' →
    (if ((a && b) && c) then edge_turn rises else pos 0) ≡ (if ((a' && b') && c') then edge_turn rises' else pos 0)
same_turns a b c a' b' c' rises rises' one two three four = rw (one, two, three, four) refl

-- an edge made of a line adds in a row what the line adds, where both begin and stop alike at that row
pub line_turns : (low high : PointValue) (rises : Bool) (begin stop row col : ℕ) (e : Edge) → 0 < stop →
    nat_le begin row ≡ int_le low.y (centre row) → nat_le stop row ≡ int_le high.y (centre row) →
    IsMadeOf low high rises begin (stop - 1) e → turn_in row col e ≡ line_turn low high rises (centre col) (centre row)
unfolding turn_in
line_turns low high rises begin stop row col e some from to made =
    same_turns _ _ _ _ _ _ _ _ (ap (λ n. nat_le n row) made.begins ∙ from)
    (ap (λ n. nat_le row n) made.ends ∙ before_stop stop row high.y (centre row) some to)
    (made.crosses row col) made.goes

-- in each of some rows between a line's ends its place is at most 2^46 times its rise
pub near_all : (low high : PointValue) (place dy dx : ℤ) (row last : ℕ) → place ≡ line_place low high (centre row) →
    dy ≡ (high.y -ℤ low.y) → dx ≡ (high.x -ℤ low.x) → IsWithin low.x → IsWithin high.x →
    IsTrue (int_le low.y (centre row)) → IsTrue (int_lt (centre last) high.y) → (k : ℕ) → row ≤ k → k ≤ last →
    unsigned_abs (place +ℤ (pos k -ℤ pos row) *ℤ (dx *ℤ pos 256)) ≤ unsigned_abs dy * 2 ^ 46
near_all low high place dy dx row last is tall wide here there begins ends k late early =
    rw (is, tall, wide, place_grows low high row k)
    (near_place low high (centre k) here (omega (arith, ints, here, there))
    (let e : true ≡ int_le low.y (centre k) = omega (arith, ints, begins) in sym e)
    (let e : true ≡ int_lt (centre k) high.y = omega (arith, ints, ends) in sym e))

-- a place and a run divided by the rise, rounded down, are what is divided to make an edge
pub divided_by : (place run rise span minus quotient rest step part : ℤ) → pos 0 <ℤ rise → span ≡ (rise *ℤ pos 256) →
    minus ≡ neg_ℤ place → minus ≡ (span *ℤ quotient +ℤ rest) → pos 0 ≤ℤ rest → rest <ℤ span →
    run ≡ (rise *ℤ step +ℤ part) → pos 0 ≤ℤ part → part <ℤ rise →
    IsDividedBy place run (unsigned_abs rise) quotient rest step part
divided_by place run rise span minus quotient rest step part some wide negative across rest_low rest_high along part_low
    part_high =
    let tall : rise ≡ pos (unsigned_abs rise) = omega (arith, ints, some) in
    let width : span ≡ pos (unsigned_abs rise * 256) = omega (arith, ints, some, wide) in
    record {
      across = sym negative ∙ (across ∙ ap (λ z. z *ℤ quotient +ℤ rest) width);
      rest_low = rest_low;
      rest_high = omega (arith, ints, rest_high, width);
      along = along ∙ ap (λ z. z *ℤ step +ℤ part) tall;
      part_low = part_low;
      part_high = omega (arith, ints, part_high, tall);
    }

-- the same, where each number of the edge is named by an equation
pub edge_is_placed : (place run rise quotient rest step part col : ℤ) (over parts span row last : ℕ) (step' : ℤ)
    (rises : Bool) → pos 0 <ℤ rise → IsDividedBy place run (unsigned_abs rise) quotient rest step part →
    col ≡ neg_ℤ quotient → step' ≡ step → over ≡ unsigned_abs rest → parts ≡ unsigned_abs (part *ℤ pos 256) →
    span ≡ unsigned_abs rise * 256 → unsigned_abs rise < 2 ^ 46 → unsigned_abs run < 2 ^ 46 → row ≤ last →
    last < 4294967296 → ((j : ℕ) → row ≤ j → j ≤ last →
    unsigned_abs (place +ℤ (pos j -ℤ pos row) *ℤ (run *ℤ pos 256)) ≤ unsigned_abs rise * 2 ^ 46) →
    IsPlacedAt place rise run rises row last
    (record { col = col; step = step'; over = over; part = parts; span = span; row = row; last = last; rises = rises })
edge_is_placed place run rise quotient rest step part col over parts span row last step' rises some is minus steps overs
    partss spans small slope order numbered near =
    let tall : pos (unsigned_abs rise) ≡ rise = omega (arith, ints, some) in
    rw (steps, overs, partss, spans) (subst (λ (z : ℤ). IsPlacedAt place z run rises row last
    (record {
      col = col;
      step = step;
      over = unsigned_abs rest;
      part = unsigned_abs (part *ℤ pos 256);
      span =
          unsigned_abs rise * 256;
      row = row;
      last = last;
      rises = rises;
    })) tall
    (edge_placed place run (unsigned_abs rise) row last quotient rest step part col rises is minus small slope order
    numbered near))

-- the quotient by which an edge moves in each row is at most the run of its line
pub slope_near : (place run : ℤ) (k : ℕ) (quotient rest step part : ℤ) →
    IsDividedBy place run k quotient rest step part → unsigned_abs step ≤ unsigned_abs run
slope_near place run k quotient rest step part is = slope_of run k step part is.along is.part_low is.part_high

none_on : (row : ℕ) → (pos row -ℤ pos row) ≡ pos 0
none_on row = omega (arith, ints)

-- a bound of a place in its own row, where it has not grown yet, is a bound of the place
pub place_here : (place g : ℤ) (row most : ℕ) → unsigned_abs (place +ℤ (pos row -ℤ pos row) *ℤ g) ≤ most →
    unsigned_abs place ≤ most
place_here place g row most near = subst (λ z. unsigned_abs z ≤ most)
    (not_yet place g (pos row -ℤ pos row) (none_on row)) near

-- a line that misses the rows adds nothing in them
outside : (low high first last py : ℤ) → first ≤ℤ py → py ≤ℤ last → (int_le high first || int_lt last low) ≡ true →
    is_between low high py ≡ false
outside low high first last py late early out = elim (or_cases (int_le high first) (int_lt last low) out) [
  | inl above ↦ and_right (int_le low py) (int_lt py high)
      (let e : false ≡ int_lt py high = omega (arith, ints, above, late) in sym e)
  | inr below ↦ and_left (int_le low py) (int_lt py high)
      (let e : false ≡ int_le low py = omega (arith, ints, below, early) in sym e)
]

-- a line that ends above some rows, or begins below them, adds nothing in them
pub line_misses : (low high : PointValue) (rises : Bool) (first end row col : ℕ) →
    (int_le high.y (centre first) || int_lt (centre (end - 1)) low.y) ≡ true → first ≤ row → row < end →
    pos 0 ≡ line_turn low high rises (centre col) (centre row)
line_misses low high rises first end row col out late less =
    let e = outside low.y high.y (centre first) (centre (end - 1)) (centre row) (omega (arith, ints))
    (omega (arith, ints)) out in
    rw e refl
