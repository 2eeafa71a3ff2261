-- Lengths of segments: that they are above 0, and at least as long as each step.
use Rattle.std.proofs.Common.{◌≡◌, ℕ, zero, suc, ◌+◌, ◌*◌, ◌/◌, ◌<◌, ◌≤◌, ◌==◌, ◌&&◌, ◌^◌, Bool, true, false, leb}
use Rattle.std.proofs.Common.{arith, refl, sym, ap, ◌∙◌, unsigned_abs}
use Rattle.std.proofs.lemmas.Bool.{leb-true, leb-false}
use Rattle.std.proofs.Math.Nat.{mul-le-mul_left, mul-le-mul}
use Rattle.proof_words.proofs.Cases.{by_bool, by_le}
use Rattle.press_nums.specs.Roots.{root, IsRoot}
use Rattle.press_nums.proofs.RootLemmas.{square_is, is_root, root_is, root_greatest}
use Rattle.geo_stroke.specs.Segment.{LineSegmentValue, HasLength, step_x, step_y, is_point, square_of, length_of}

-- a root is at least each number whose square fits
pub root_reaches : (n r x : ℕ) → IsRoot 2 n r → x * x ≤ n → x ≤ r
root_reaches n r x i h = i.greatest x (omega (arith, h, square_is x))

pub step_reaches : (x y q r : ℕ) → q ≡ x * x + y * y → IsRoot 2 (q * 65536) r → 256 * x ≤ r
step_reaches x y q r e i = root_reaches (q * 65536) r (256 * x) i (omega arith)

pub other_step_reaches : (x y q r : ℕ) → q ≡ x * x + y * y → IsRoot 2 (q * 65536) r → 256 * y ≤ r
other_step_reaches x y q r e i = root_reaches (q * 65536) r (256 * y) i (omega arith)

-- a segment that goes somewhere is longer than 0
pub some_length : (x y r : ℕ) → (x == 0 && y == 0) ≡ false → 256 * x ≤ r → 256 * y ≤ r → 0 < r
some_length zero zero r e f g = cc
some_length zero (suc y) r e f g = omega arith
some_length (suc x) y r e f g = omega arith

-- a length is at most 2^41
length_most : (q r : ℕ) → q ≤ 2 ^ 65 → IsRoot 2 (q * 65536) r → r ≤ 2 ^ 41
length_most q r h i = by_le r (2 ^ 41) (λ e. e)
    (λ f. let above : 2 ^ 41 + 1 ≤ r = f in
    let more : (2 ^ 41 + 1) * (2 ^ 41 + 1) ≤ r * r = mul-le-mul above above in
    omega (arith, more, h, i.fits, square_is r))

-- what a length in 1/65536 of a dot keeps
pub has_length : (s : LineSegmentValue) (q r : ℕ) → is_point s ≡ false → q ≡ square_of s → q ≤ 2 ^ 65 →
    r ≡ root 2 (q * 65536) → IsRoot 2 (q * 65536) r → HasLength s r
has_length s q r differs e h v i =
    let x = step_reaches (unsigned_abs (step_x s)) (unsigned_abs (step_y s)) q r e i in
    let y = other_step_reaches (unsigned_abs (step_x s)) (unsigned_abs (step_y s)) q r e i in
    record {
      value = ap (λ n. root 2 (n * 65536)) (sym e) ∙ sym v;
      some = some_length (unsigned_abs (step_x s)) (unsigned_abs (step_y s)) r differs x y;
      x = x;
      y = y;
      bound = length_most q r h i;
    }

-- a root of 65536 times a number is 256 times its root, but for what is rounded off
coarse_root : (n r : ℕ) → IsRoot 2 (n * 65536) r → IsRoot 2 n (r / 256)
coarse_root n r i =
    let low : 256 * (r / 256) ≤ r = omega arith in
    let high : r < 256 * (r / 256 + 1) = omega arith in
    let more : 256 * (r / 256) * (256 * (r / 256)) ≤ r * r = mul-le-mul low low in
    is_root 2 n (r / 256) (rw square_is (omega (arith, more, i.fits, square_is r)))
    (rw square_is (by_le ((r / 256 + 1) * (r / 256 + 1)) n
    (λ f. absurd (let e = i.greatest (256 * (r / 256 + 1)) (rw square_is (omega (arith, f))) in omega (arith, e, high)))
    (λ f. f)))

-- a segment's length in 1/65536 of a dot, by 256 and rounded down, is its length in sub-dots
pub length_by : (s : LineSegmentValue) (r : ℕ) → HasLength s r → r / 256 ≡ length_of s
length_by s r h = rw (sym h.value) (root_is 2 (square_of s) _ (omega arith)
    (coarse_root (square_of s) _ (root_greatest 2 (square_of s * 65536) (omega arith))))

-- a share of h by a step of at most the whole is at most h
pub share_most : (l h s n q : ℕ) → 0 < l → n ≡ s * h * 256 → 256 * s ≤ l → 2 * (l * q) ≤ 2 * n + l → q ≤ h
share_most l h s n q some is step e = by_le q h (λ f. f)
    (λ f. let more : l * (h + 1) ≤ l * q = mul-le-mul_left l (omega arith) in
    let most : h * (256 * s) ≤ h * l = mul-le-mul_left h step in omega (arith, more, most))
