-- The columns of a row that a disc holds.
use Rattle.std.proofs.Common.{◌≡◌, ◌∙◌, sym, subst, refl, ℕ, ◌*◌, ◌^◌, ◌<◌, ◌≤◌, inl, inr, Bool, true, false, ◌&&◌}
use Rattle.std.proofs.Common.{◌||◌, [], ◌∷◌, ℤ, pos, ◌+ℤ◌, arith}
use Rattle.std.specs.Prelude.{◌*ℤ◌, ◌-ℤ◌, int_le, int_lt, nat_le, unsigned_abs}
use Rattle.std.proofs.lemmas.Bool.{cases_lt, le-leb, lt-leb}
use Rattle.std.proofs.lemmas.Bool.Decides.{nat_tests}
use Rattle.std.proofs.lemmas.Int.{ints}
use Rattle.std.proofs.Math.Nat.{mul-le-mul}
use Rattle.press_nums.specs.Roots.{IsRoot}
use Rattle.press_nums.proofs.RootLemmas.{square_is}
use Rattle.press_nums.proofs.Squares.{square_of}
use Rattle.page_model.specs.Inside.{centre}
use Rattle.page_model.specs.Disc.{DiscValue}
use Rattle.page_model.specs.Cover.{disc_holds}
use Rattle.geo_fill.specs.Spans.{is_in, HaveJust}
use Rattle.geo_fill.specs.Code.WalkSteps.{IsHalfWidth}
use Rattle.geo_fill.proofs.Apart.{in_range, before_range, behind_range}

-- a height that is further from the centre than the radius
far_test : (a h r : ℤ) (most used : ℤ) → most ≡ (r *ℤ r) → used ≡ (h *ℤ h) → int_lt most used ≡ true →
    int_le (a *ℤ a +ℤ h *ℤ h) (r *ℤ r) ≡ false
far_test a h r most used is then less =
    let one = square_of a in
    let e : false ≡ int_le (a *ℤ a +ℤ h *ℤ h) (r *ℤ r) = omega (arith, ints, one, is, then, less) in sym e

-- a disc holds no dot of a row whose height is further from its centre than its radius
pub too_far : (d : DiscValue) (row : ℕ) (most used : ℤ) → most ≡ (pos d.r *ℤ pos d.r) →
    used ≡ ((centre row -ℤ d.y) *ℤ (centre row -ℤ d.y)) → int_lt most used ≡ true → (col : ℕ) →
    disc_holds d row col ≡ false
unfolding disc_holds
too_far d row most used is then less col =
    far_test (centre col -ℤ d.x) (centre row -ℤ d.y) (pos d.r) most used is then less

-- a number is at most a root where its square is at most the radicand
by_root : (a root n : ℕ) → IsRoot 2 n root → int_le (pos (a * a)) (pos n) ≡ nat_le a root
by_root a root n is = elim (cases_lt root a) [
  | inl more ↦ (let e : int_le (pos (a * a)) (pos n) ≡ false = lt-leb (a * a) n (above more) in e
      ∙ sym (lt-leb a root more))
  | inr less ↦ (let e : int_le (pos (a * a)) (pos n) ≡ true = le-leb (a * a) n (below less) in e
      ∙ sym (le-leb a root less))
]
  where
    above : root < a → n < a * a
    above more = elim (cases_lt n (a * a)) [
      | inl good ↦ good
      | inr bad ↦ absurd (let g = is.greatest a (let e = square_is a in omega (arith, e, bad)) in
          omega (arith, g, more))
    ]

    below : a ≤ root → a * a ≤ n
    below less = let m : a * a ≤ root * root = mul-le-mul less less in let e = square_is root in let f = is.fits in
        omega (arith, m, e, f)

near_test : (a h r : ℤ) (most used : ℤ) (n root : ℕ) → most ≡ (r *ℤ r) → used ≡ (h *ℤ h) → int_lt most used ≡ false →
    n ≡ unsigned_abs (most -ℤ used) → IsRoot 2 n root →
    int_le (a *ℤ a +ℤ h *ℤ h) (r *ℤ r) ≡ nat_le (unsigned_abs a) root
near_test a h r most used n root is then less left root_is =
    same_order (a *ℤ a) (h *ℤ h) (r *ℤ r) most used (unsigned_abs a * unsigned_abs a) n (square_of a) is then less left
    ∙ by_root (unsigned_abs a) root n root_is
  where
    same_order : (aa hh rr most used : ℤ) (s n : ℕ) → aa ≡ pos s → most ≡ rr → used ≡ hh → int_lt most used ≡ false →
        n ≡ unsigned_abs (most -ℤ used) → int_le (aa +ℤ hh) rr ≡ int_le (pos s) (pos n)
    same_order aa hh rr most used s n one two three four five = elim (cases_lt n s) [
      | inl more ↦ (let e : false ≡ int_le (aa +ℤ hh) rr = omega (arith, ints, one, two, three, four, five, more) in
          sym e ∙ sym (lt-leb s n more))
      | inr less ↦ (let e : true ≡ int_le (aa +ℤ hh) rr = omega (arith, ints, one, two, three, four, five, less) in
          sym e ∙ sym (le-leb s n less))
    ]

within_half : (x c : ℤ) (root : ℕ) → nat_le (unsigned_abs (c -ℤ x)) root
    ≡ (int_le (x -ℤ pos root) c && int_lt c ((x +ℤ pos root) +ℤ pos 1))
within_half x c root = grind (arith, ints, nat_tests)

-- the root of the squared radius less the squared height is half the width of a disc in a row
pub half_is : (d : DiscValue) (row : ℕ) (most used : ℤ) (n root : ℕ) → most ≡ (pos d.r *ℤ pos d.r) →
    used ≡ ((centre row -ℤ d.y) *ℤ (centre row -ℤ d.y)) → int_lt most used ≡ false → n ≡ unsigned_abs (most -ℤ used) →
    IsRoot 2 n root → root < 2 ^ 64 → (half : ℤ) → half ≡ pos root → IsHalfWidth d row half
unfolding disc_holds
half_is d row most used n root is then less left root_is small half same =
    subst (λ (z : ℤ). IsHalfWidth d row z) (sym same) (record {
      small = small;
      holds = λ col.
          near_test (centre col -ℤ d.x) (centre row -ℤ d.y) (pos d.r) most used n root is then less left root_is
          ∙ within_half d.x (centre col) root;
    })

-- the columns between two tests
between : (first end col : ℕ) (low high c : ℤ) → nat_le first col ≡ int_le low c → nat_le end col ≡ int_le high c →
    (int_le low c && int_lt c high) ≡ is_in first end col
between first end col low high c one two = grind (arith, ints, nat_tests, one, two)

-- the first columns at or behind a disc's two sides bound the one span that it has of a range
pub span_is : (d : DiscValue) (row from to first end : ℕ) (half low high : ℤ) → IsHalfWidth d row half →
    low ≡ (d.x -ℤ half) → high ≡ ((d.x +ℤ half) +ℤ pos 1) → from ≤ first → end ≤ to →
    ((k : ℕ) → from ≤ k → k < to → nat_le first k ≡ int_le low (centre k)) →
    ((k : ℕ) → from ≤ k → k < to → nat_le end k ≡ int_le high (centre k)) →
    HaveJust (record { first = first; end = end } ∷ []) from to (disc_holds d row)
span_is d row from to first end half low high is low_is high_is late early firsts ends = record {
  columns = λ col. elim (cases_lt col from) [
    | inl before ↦ rw (before_range first end col (omega arith), before_range from to col before) refl
    | inr from_on ↦ elim (cases_lt col to) [
      | inl inside ↦ rw (
        in_range from to col from_on inside,
        is.holds col,
        ← low_is,
        ← high_is,
        between first end col low high (centre col) (firsts col from_on inside) (ends col from_on inside),
      )
          (or_false (is_in first end col))
      | inr behind ↦ rw (behind_range first end col (omega arith), behind_range from to col behind) refl
    ]
  ];
}
  where
    or_false : (b : Bool) → (b || false) ≡ b
    or_false true = refl
    or_false false = refl

-- where the first column behind a disc's end isn't behind the first one at its begin, it has none of a range
pub no_span_is : (d : DiscValue) (row from to first end : ℕ) (half low high : ℤ) → IsHalfWidth d row half →
    low ≡ (d.x -ℤ half) → high ≡ ((d.x +ℤ half) +ℤ pos 1) → end ≤ first →
    ((k : ℕ) → from ≤ k → k < to → nat_le first k ≡ int_le low (centre k)) →
    ((k : ℕ) → from ≤ k → k < to → nat_le end k ≡ int_le high (centre k)) → HaveJust [] from to (disc_holds d row)
no_span_is d row from to first end half low high is low_is high_is none firsts ends = record {
  columns = λ col. elim (cases_lt col from) [
    | inl before ↦ rw (before_range from to col before) refl
    | inr from_on ↦ elim (cases_lt col to) [
      | inl inside ↦ rw (
        in_range from to col from_on inside,
        is.holds col,
        ← low_is,
        ← high_is,
        between first end col low high (centre col) (firsts col from_on inside) (ends col from_on inside),
      )
          (nothing first end col none)
      | inr behind ↦ rw (behind_range from to col behind) refl
    ]
  ];
}
  where
    nothing : (first end col : ℕ) → end ≤ first → false ≡ is_in first end col
    nothing first end col none = grind (arith, nat_tests)
