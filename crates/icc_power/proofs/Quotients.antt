-- Quotients, and powers of two.
use Rattle.std.proofs.Common.{◌≡◌, ℕ, zero, suc, ◌*◌, ◌/◌, ◌^◌, ◌<◌, ◌≤◌, leb, arith, sym}
use Rattle.std.proofs.Math.Nat.{div-mul-le_self, pow-suc, pow-zero}
use Rattle.std.proofs.lemmas.Nat.{le-div, div_below}
use Rattle.std.proofs.lemmas.Bool.{leb-true, leb-false, le-leb}
use Rattle.proof_words.proofs.Cases.{by_bool}
use Rattle.press_nums.specs.Roots.{greatest}
use Rattle.press_nums.proofs.RootLemmas.{greatest_is}
use Rattle.icc_power.specs.Power.{exponent}

-- a quotient rises with its dividend
pub div_rises : (k a b : ℕ) → 0 < k → a ≤ b → a / k ≤ b / k
div_rises k a b some h = let e = div-mul-le_self a k in le-div (a / k) b k some (omega (arith, e, h))

-- a number is below its power of two
pub below_power : (n : ℕ) → n < 2 ^ n
below_power zero = rw (pow-zero 2) (omega arith)
below_power (suc n) = rw (pow-suc 2 n) (let i = below_power n in omega (arith, i))

-- powers of two are at least 1
pub power_some : (n : ℕ) → 0 < 2 ^ n
power_some n = let e = below_power n in omega (arith, e)

-- twice a power of two
pub twice_power : (n : ℕ) → 2 ^ suc n ≡ 2 * 2 ^ n
twice_power n = rw (pow-suc 2 n) (omega arith)

-- powers of two rise with their exponents
pub powers_rise : (a b : ℕ) → a ≤ b → 2 ^ a ≤ 2 ^ b
powers_rise a zero h = let e : a ≡ zero = omega (arith, h) in rw e (omega arith)
powers_rise a (suc b) h = by_bool (leb a b)
    (λ e. let i = powers_rise a b (leb-true a b e) in rw (twice_power b) (omega (arith, i)))
    (λ e. let same : a ≡ suc b = omega (arith, h, leb-false a b e) in rw same (omega arith))

-- an exponent is found where its power fits and twice the power doesn't
pub exponent_is : (y n : ℕ) → 2 ^ n ≤ y → y < 2 * 2 ^ n → exponent y ≡ n
unfolding exponent
exponent_is y n fits less =
    greatest_is (λ k. leb (2 ^ k) y) y n (let e = below_power n in omega (arith, e, fits))
    (le-leb (2 ^ n) y fits)
    (λ k above. by_bool (leb (2 ^ k) y)
    (λ e. absurd (let one = powers_rise (suc n) k (omega (arith, above)) in
    let two = twice_power n in
    let three = leb-true (2 ^ k) y e in
    omega (arith, one, two, three, less)))
    (λ e. e))

greatest_fits : (y most : ℕ) → 0 < y → 2 ^ greatest (λ k. leb (2 ^ k) y) most ≤ y
unfolding greatest
greatest_fits y zero h = rw (pow-zero 2) (omega (arith, h))
greatest_fits y (suc n) h = by_bool (leb (2 ^ suc n) y)
    (λ e. rw e (leb-true (2 ^ suc n) y e))
    (λ e. rw e (greatest_fits y n h))

greatest_most : (y most k : ℕ) → k ≤ most → 2 ^ k ≤ y → k ≤ greatest (λ k. leb (2 ^ k) y) most
unfolding greatest
greatest_most y zero k h fits = h
greatest_most y (suc n) k h fits = by_bool (leb (2 ^ suc n) y)
    (λ e. rw e h)
    (λ e. rw e (by_bool (leb k n)
    (λ l. greatest_most y n k (leb-true k n l) fits)
    (λ l. absurd (let same : k ≡ suc n = omega (arith, leb-false k n l, h) in
    let more : 2 ^ suc n ≤ y = rw (sym same) fits in
    omega (arith, more, leb-false (2 ^ suc n) y e)))))

-- the power of the exponent fits
pub exponent_fits : (y : ℕ) → 0 < y → 2 ^ exponent y ≤ y
unfolding exponent
exponent_fits y h = greatest_fits y y h

-- no greater one does
pub exponent_most : (y k : ℕ) → 2 ^ k ≤ y → k ≤ exponent y
unfolding exponent
exponent_most y k fits = greatest_most y y k (let e = below_power k in omega (arith, e, fits)) fits

-- a number in proportion to its power of two, from 1 up to and without 2
pub mantissa_below : (y n : ℕ) → y < 2 * 2 ^ n → y * 2 ^ 32 / 2 ^ n < 2 ^ 33
mantissa_below y n h = div_below (y * 2 ^ 32) (2 ^ n) (2 ^ 33) (power_some n) (omega (arith, h))

-- a quotient by a great power of two is 0
pub small_quotient : (r n : ℕ) → r ≤ 2 ^ 64 → 64 < n → r / 2 ^ n ≡ 0
small_quotient r n h l =
    let great = powers_rise 65 n (omega (arith, l)) in
    let below = div_below r (2 ^ n) 1 (power_some n) (omega (arith, h, great)) in
    omega (arith, below)
