-- A power never falls as its number rises, for each positive exponent; nor do the values of an exponent's curve.
use Rattle.std.proofs.Common.{◌≡◌, ℕ, zero, suc, ◌+◌, ◌*◌, ◌/◌, ◌^◌, ◌<◌, ◌≤◌, false, leb, ltb}
use Rattle.std.proofs.Common.{arith, refl, ap}
use Rattle.std.proofs.Common.{sym, ◌∙◌, [], ◌∷◌}
use Rattle.std.specs.Prelude.{ℤ, pos, negsuc, ◌+ℤ◌, ◌-ℤ◌, ◌*ℤ◌, ◌≤ℤ◌, ◌<ℤ◌, unsigned_abs, int_le, int_lt}
use Rattle.std.proofs.lemmas.Int.{ints}
use Rattle.std.proofs.Math.Nat.{div-mul-le_self, mul-le-mul_left, mul-le-mul_right, mul-le-mul}
use Rattle.std.proofs.lemmas.Nat.{le-div}
use Rattle.std.proofs.lemmas.Bool.{leb-true, leb-false}
use Rattle.proof_words.proofs.Cases.{by_bool, by_le}
use Rattle.press_nums.specs.Rounding.{div_round}
use Rattle.press_nums.proofs.Nearest.{nearest}
use Rattle.press_nums.proofs.Floors.{floor_parts}
use Rattle.icc_tables.specs.Rounded.{rounded, clamped}
use Rattle.icc_power.specs.Power.{log_places, exponent, log2, two_roots, raised, scaled, whole_part}
use Rattle.icc_power.specs.Power.{fraction_of}
use Rattle.icc_power.specs.Power.{exp2, power}
use Rattle.icc_power.specs.Parametric.{parametric, line_at, y_at, value_of, parametric_at}
use Rattle.icc_power.specs.Parametric.{IsPower}
use Rattle.icc_power.proofs.Quotients.{div_rises, exponent_fits, exponent_most, exponent_is, powers_rise, twice_power}
use Rattle.icc_power.proofs.Quotients.{power_some}
use Rattle.icc_power.proofs.Places.{places_below, places_rise, no_places}
use Rattle.icc_power.proofs.Raising.{raised_rises, raised_above, raised_most, raised_by_none}

-- a rounded quotient rises with its dividend
pub round_rises : (a b : ℤ) (d : ℕ) → 0 < d → a ≤ℤ b → div_round a (pos d) ≤ℤ div_round b (pos d)
round_rises a b d some h =
    let one = nearest a (pos d) (omega (arith, ints, some)) in
    let two = nearest b (pos d) (omega (arith, ints, some)) in
    let fits = one.fits in
    two.greatest (div_round a (pos d)) (omega (arith, ints, fits, h))

-- a product with a positive number rises
product_rises : (g a b : ℤ) → pos 0 <ℤ g → a ≤ℤ b → (g *ℤ a) ≤ℤ (g *ℤ b)
product_rises (pos g) (pos a) (pos b) some h = let e : g * a ≤ g * b = mul-le-mul_left g (omega (arith, ints, h)) in
    omega (arith, ints, e)
product_rises (pos g) (negsuc a) (pos b) some h = omega (arith, ints)
product_rises (pos g) (pos a) (negsuc b) some h = absurd (omega (arith, ints, h))
product_rises (pos g) (negsuc a) (negsuc b) some h =
    let e : g * suc b ≤ g * suc a = mul-le-mul_left g (omega (arith, ints, h)) in omega (arith, ints, e)
product_rises (negsuc g) a b some h = absurd (omega (arith, ints, some))

log_parts : (n m p q : ℕ) → p < 2 ^ 32 → (n < m) →
    ((pos n -ℤ pos 32) *ℤ pos (2 ^ 32) +ℤ pos p) ≤ℤ ((pos m -ℤ pos 32) *ℤ pos (2 ^ 32) +ℤ pos q)
log_parts n m p q below less = omega (arith, ints, below, less)

log_same : (n p q : ℕ) → p ≤ q →
    ((pos n -ℤ pos 32) *ℤ pos (2 ^ 32) +ℤ pos p) ≤ℤ ((pos n -ℤ pos 32) *ℤ pos (2 ^ 32) +ℤ pos q)
log_same n p q most = omega (arith, ints, most)

-- the logarithm rises
pub log_rises : (a b : ℕ) → 0 < a → a ≤ b → log2 a ≤ℤ log2 b
unfolding log2
log_rises a b some h =
    let most : exponent a ≤ exponent b =
    exponent_most b (exponent a) (let e = exponent_fits a some in omega (arith, e, h)) in
    by_bool (leb (exponent b) (exponent a))
    (λ e. let same : exponent b ≡ exponent a = omega (arith, most, leb-true (exponent b) (exponent a) e) in
    rw same (log_same (exponent a) (log_places 32 (a * 2 ^ 32 / 2 ^ exponent a))
    (log_places 32 (b * 2 ^ 32 / 2 ^ exponent a))
    (places_rise 32 (a * 2 ^ 32 / 2 ^ exponent a) (b * 2 ^ 32 / 2 ^ exponent a)
    (div_rises (2 ^ exponent a) (a * 2 ^ 32) (b * 2 ^ 32) (power_some (exponent a)) (omega (arith, h))))))
    (λ e. log_parts (exponent a) (exponent b) (log_places 32 (a * 2 ^ 32 / 2 ^ exponent a))
    (log_places 32 (b * 2 ^ 32 / 2 ^ exponent b)) (places_below 32 (a * 2 ^ 32 / 2 ^ exponent a))
    (leb-false (exponent b) (exponent a) e))

-- the whole part rises
whole_rises : (a b : ℤ) → a ≤ℤ b → whole_part a ≤ℤ whole_part b
whole_rises a b h =
    let one = floor_parts a (pos (2 ^ 32)) (omega (arith, ints)) in
    let two = floor_parts b (pos (2 ^ 32)) (omega (arith, ints)) in
    let fits = one.fits in
    let less = two.less in
    omega (arith, ints, fits, less, h)

-- of numbers with the same whole part the fraction rises
fractions_rise : (a b q : ℤ) → (pos (2 ^ 32) *ℤ q) ≤ℤ a → a ≤ℤ b →
    unsigned_abs (a -ℤ q *ℤ pos (2 ^ 32)) ≤ unsigned_abs (b -ℤ q *ℤ pos (2 ^ 32))
fractions_rise a b q fits h = omega (arith, ints, fits, h)

-- with the same whole part a greater factor gives more
scaled_rises : (q : ℤ) (r s : ℕ) → r ≤ s → scaled q r ≤ scaled q s
scaled_rises (pos q) r s h = by_bool (ltb 31 q) (λ e. rw e (omega arith)) (λ e. rw e (mul-le-mul_right (2 ^ q) h))
scaled_rises (negsuc q) r s h = div_rises (2 ^ suc q) r s (power_some (suc q)) h

quotients_fall : (k l r s : ℕ) → l < k → r ≤ 2 ^ 33 → 2 ^ 32 ≤ s → r / 2 ^ suc k ≤ s / 2 ^ suc l
quotients_fall k l r s less most least =
    let z = r / 2 ^ suc k in
    let one : z * 2 ^ suc k ≤ r = div-mul-le_self r (2 ^ suc k) in
    let two : 2 ^ suc k ≡ 2 * 2 ^ k = twice_power k in
    let three : z * 2 ^ suc k ≡ z * (2 * 2 ^ k) = ap (λ n. z * n) two in
    let four : z * 2 ^ suc l ≤ z * 2 ^ k = mul-le-mul_left z (powers_rise (suc l) k (omega (arith, less))) in
    le-div z s (2 ^ suc l) (power_some (suc l)) (omega (arith, one, three, four, most, least))

-- a greater whole part gives more, whatever the fractions
scaled_apart : (p q : ℤ) (r s : ℕ) → p <ℤ q → r ≤ 2 ^ 33 → 2 ^ 32 ≤ s → scaled p r ≤ scaled q s
scaled_apart (pos p) (pos q) r s h most least = by_bool (ltb 31 q)
    (λ f. rw f (by_bool (ltb 31 p)
    (λ e. rw e (omega arith))
    (λ e. rw e (let one = mul-le-mul most (powers_rise p 31 (omega (arith, leb-false 32 p e))) in omega (arith, one)))))
    (λ f. rw f (by_bool (ltb 31 p)
    (λ e. absurd (omega (arith, ints, h, leb-true 32 p e, leb-false 32 q f)))
    (λ e. rw e (let two = twice_power p in
    let three = powers_rise (suc p) q (omega (arith, ints, h)) in
    let four = mul-le-mul_right (2 ^ p) most in
    let five = mul-le-mul least three in
    omega (arith, two, four, five)))))
scaled_apart (negsuc p) (pos q) r s h most least =
    let one = div_rises (2 ^ suc p) r (2 ^ 33) (power_some (suc p)) most in
    let two : 2 ≤ 2 ^ suc p = let e = twice_power p in let f = power_some p in omega (arith, e, f) in
    let z = r / 2 ^ suc p in
    let three : z * 2 ^ suc p ≤ r = div-mul-le_self r (2 ^ suc p) in
    let four : z * 2 ≤ z * 2 ^ suc p = mul-le-mul_left z two in
    by_bool (ltb 31 q)
    (λ e. rw e (omega (arith, three, four, most)))
    (λ e. rw e (let five : s * 1 ≤ s * 2 ^ q = mul-le-mul_left s (power_some q) in
    omega (arith, three, four, five, most, least)))
scaled_apart (negsuc p) (negsuc q) r s h most least = quotients_fall p q r s (omega (arith, ints, h)) most least
scaled_apart (pos p) (negsuc q) r s h most least = absurd (omega (arith, ints, h))

factor_most : (fraction : ℕ) → raised two_roots fraction (2 ^ 32) ≤ 2 ^ 33
unfolding two_roots
factor_most fraction = raised_most 32 (2 ^ 33) fraction (2 ^ 32) (omega arith)

factor_least : (fraction : ℕ) → 2 ^ 32 ≤ raised two_roots fraction (2 ^ 32)
unfolding two_roots
factor_least fraction = raised_above 32 (2 ^ 33) fraction (2 ^ 32) (omega arith)

factor_rises : (a b : ℕ) → a ≤ b → raised two_roots a (2 ^ 32) ≤ raised two_roots b (2 ^ 32)
unfolding two_roots
factor_rises a b h = raised_rises 32 (2 ^ 33) a b (2 ^ 32) (omega arith) h

-- by the cases of whole numbers in order: the same, or less
by_order : {P : Type 0} (a b : ℤ) → a ≤ℤ b → (a ≡ b → P) → (a <ℤ b → P) → P
by_order (pos a) (pos b) h f g =
    by_le b a (λ l. f (ap pos (omega (arith, ints, h, l)))) (λ l. g (omega (arith, ints, l)))
by_order (negsuc a) (pos b) h f g = g (omega (arith, ints))
by_order (pos a) (negsuc b) h f g = absurd (omega (arith, ints, h))
by_order (negsuc a) (negsuc b) h f g =
    by_le a b (λ l. f (ap negsuc (omega (arith, ints, h, l)))) (λ l. g (omega (arith, ints, l)))

-- two to a power rises with the power
pub exp_rises : (a b : ℤ) → a ≤ℤ b → exp2 a ≤ exp2 b
unfolding exp2
exp_rises a b h = by_order (whole_part a) (whole_part b) (whole_rises a b h)
    (λ same. rw (sym same) (scaled_rises (whole_part a) (raised two_roots (fraction_of a) (2 ^ 32))
    (raised two_roots (unsigned_abs (b -ℤ whole_part a *ℤ pos (2 ^ 32))) (2 ^ 32))
    (factor_rises (fraction_of a) (unsigned_abs (b -ℤ whole_part a *ℤ pos (2 ^ 32)))
    (let one = floor_parts a (pos (2 ^ 32)) (omega (arith, ints)) in fractions_rise a b (whole_part a) one.fits h))))
    (λ less. scaled_apart (whole_part a) (whole_part b) (raised two_roots (fraction_of a) (2 ^ 32))
    (raised two_roots (fraction_of b) (2 ^ 32)) less (factor_most (fraction_of a)) (factor_least (fraction_of b)))

not_none : (a : ℕ) → int_le (pos (suc a)) (pos 0) ≡ false
not_none a = by_bool (int_le (pos (suc a)) (pos 0)) (λ e. absurd (let f = leb-true (suc a) 0 e in omega (arith, f)))
    (λ e. e)

power_of_none : (g : ℤ) → power (pos 0) g ≡ 0
unfolding power
power_of_none g = refl

-- a power of a positive number
power_is : (a : ℕ) (g : ℤ) → power (pos (suc a)) g ≡ exp2 (div_round (g *ℤ log2 (suc a)) (pos 65536))
unfolding power
power_is a g = rw (not_none a) refl

-- a power rises with its number
pub power_rises : (a b : ℕ) (g : ℤ) → pos 0 <ℤ g → a ≤ b → power (pos a) g ≤ power (pos b) g
power_rises zero b g some h = let e = power_of_none g in omega (arith, e)
power_rises (suc a) zero g some h = absurd (omega (arith, h))
power_rises (suc a) (suc b) g some h =
    let e = power_is a g in
    let f = power_is b g in
    let more = exp_rises (div_round (g *ℤ log2 (suc a)) (pos 65536)) (div_round (g *ℤ log2 (suc b)) (pos 65536))
    (round_rises (g *ℤ log2 (suc a)) (g *ℤ log2 (suc b)) 65536 (omega arith)
    (product_rises g (log2 (suc a)) (log2 (suc b)) some (log_rises (suc a) (suc b) (omega arith) h))) in
    omega (arith, e, f, more)

-- the power of 1 is 1
log_of_one : log2 (2 ^ 32) ≡ pos 0
unfolding log2
log_of_one = let e : exponent (2 ^ 32) ≡ 32 = exponent_is (2 ^ 32) 32 (omega arith) (omega arith) in
    rw (e, no_places 32) refl

times_none : (g : ℤ) → (g *ℤ pos 0) ≡ pos 0
times_none g = omega (arith, ints)

exp_of_none : exp2 (pos 0) ≡ 2 ^ 32
unfolding exp2
exp_of_none = rw (raised_by_none two_roots (2 ^ 32)) refl

none_rounded : div_round (pos 0) (pos 65536) ≡ pos 0
unfolding div_round
none_rounded = refl

pub power_of_one : (g : ℤ) → power (pos (2 ^ 32)) g ≡ 2 ^ 32
unfolding power
power_of_one g = rw (log_of_one, times_none g, none_rounded, exp_of_none) refl

-- X in 1/2^32
height : ℕ → ℕ
height v = (65536 * (v * 65536) * 2 + 65535) / 131070

height_is : (v : ℕ) → line_at (pos 65536) (pos 0) v ≡ pos (height v)
unfolding div_round height
height_is v = omega (arith, ints)

height_rises : (v w : ℕ) → v ≤ w → height v ≤ height w
unfolding height
height_rises v w h = div_rises 131070 (65536 * (v * 65536) * 2 + 65535) (65536 * (w * 65536) * 2 + 65535) (omega arith)
    (omega (arith, h))

-- a number that isn't negative as a value of 16 bits, with nothing added
value_at : ℕ → ℕ
value_at n = value_of (pos n +ℤ pos 0 *ℤ pos 65536)

capped_rises : (a b : ℕ) → a ≤ b →
    unsigned_abs (clamped (pos 0) (pos (2 ^ 32)) (pos a)) ≤ unsigned_abs (clamped (pos 0) (pos (2 ^ 32)) (pos b))
capped_rises a b h = grind (arith, ints)

value_rises : (a b : ℕ) → a ≤ b → value_at a ≤ value_at b
unfolding value_at rounded
value_rises a b h =
    let more = capped_rises (a + 0) (b + 0) (omega (arith, h)) in
    div_rises (2 ^ 32 * 2)
    (65535 * unsigned_abs (clamped (pos 0) (pos (2 ^ 32)) (pos (a + 0))) * 2 + 2 ^ 32)
    (65535 * unsigned_abs (clamped (pos 0) (pos (2 ^ 32)) (pos (b + 0))) * 2 + 2 ^ 32)
    (omega arith) (omega (arith, more))

-- the value of an exponent's curve is that of the power of X
law_value : (g : ℤ) (v : ℕ) → parametric_at (parametric 0 (g ∷ [])) v ≡ value_at (power (pos (height v)) g)
unfolding parametric_at y_at value_at
law_value g v = by_bool (int_lt (pos (v * 65536)) (pos 0 *ℤ pos 65535))
    (λ e. absurd (let less = leb-true (suc (v * 65536)) 0 e in omega (arith, less)))
    (λ e. rw (e, height_is v) refl)

first_is : (g : ℤ) → value_at (power (pos (height 0)) g) ≡ 0
unfolding height power value_at rounded
first_is g = refl

last_is : (g : ℤ) → value_at (power (pos (height 65535)) g) ≡ 65535
unfolding height value_at rounded
last_is g = rw (power_of_one g) refl

-- the curve of a positive exponent never falls, from 0 to 65535
pub exponent_law : (g : ℤ) → pos 0 <ℤ g → IsPower (parametric_at (parametric 0 (g ∷ [])))
exponent_law g some = record {
  first = law_value g 0 ∙ first_is g;
  last = law_value g 65535 ∙ last_is g;
  rises = λ v w h. let e : value_at (power (pos (height v)) g) ≤ value_at (power (pos (height w)) g) =
      value_rises (power (pos (height v)) g) (power (pos (height w)) g)
      (power_rises (height v) (height w) g some (height_rises v w h)) in
      rw (law_value g v, law_value g w) e;
}
