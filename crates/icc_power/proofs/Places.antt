-- The binary places of a logarithm.
use Rattle.std.proofs.Common.{◌≡◌, ℕ, zero, suc, ◌+◌, ◌*◌, ◌/◌, ◌^◌, ◌<◌, ◌≤◌, leb, arith}
use Rattle.std.proofs.Common.{refl, ap, sym, subst, ◌∙◌}
use Rattle.std.specs.Prelude.{if◌then◌else◌}
use Rattle.std.proofs.Math.Nat.{pow-zero, mul-le-mul, mul-le-mul_left, mul-le-mul_right, add-mul, mul_assoc, mul_comm}
use Rattle.std.proofs.lemmas.Bool.{leb-true, leb-false}
use Rattle.proof_words.proofs.Cases.{by_bool}
use Rattle.icc_power.specs.Power.{squared, log_places}
use Rattle.icc_power.proofs.Quotients.{div_rises, twice_power, power_some}

-- the places make a number below their power of two
pub places_below : (places m : ℕ) → log_places places m < 2 ^ places
unfolding log_places
places_below zero m = rw (pow-zero 2) (omega arith)
places_below (suc k) m = by_bool (leb (2 ^ 33) (squared m))
    (λ e. rw (e, twice_power k) (let i = places_below k (squared m / 2) in omega (arith, i)))
    (λ e. rw (e, twice_power k) (let i = places_below k (squared m) in omega (arith, i)))

square_rises : (a b : ℕ) → a ≤ b → squared a ≤ squared b
square_rises a b h = div_rises (2 ^ 32) (a * a) (b * b) (omega arith) (mul-le-mul h h)

-- the places rise with their number
pub places_rise : (places a b : ℕ) → a ≤ b → log_places places a ≤ log_places places b
unfolding log_places
places_rise zero a b h = omega arith
places_rise (suc k) a b h =
    let square = square_rises a b h in
    by_bool (leb (2 ^ 33) (squared a))
    (λ e. by_bool (leb (2 ^ 33) (squared b))
    (λ f. rw (e, f) (let i = places_rise k (squared a / 2) (squared b / 2)
    (div_rises 2 (squared a) (squared b) (omega arith) square) in
    omega (arith, i)))
    (λ f. absurd (omega (arith, square, leb-true (2 ^ 33) (squared a) e, leb-false (2 ^ 33) (squared b) f))))
    (λ e. by_bool (leb (2 ^ 33) (squared b))
    (λ f. rw (e, f) (let i = places_below k (squared a) in omega (arith, i)))
    (λ f. rw (e, f) (let i = places_rise k (squared a) (squared b) square in omega (arith, i))))

-- 1 has the logarithm 0
pub no_places : (places : ℕ) → log_places places (2 ^ 32) ≡ 0
unfolding log_places
no_places zero = refl
no_places (suc k) = omega (arith, no_places k)

twice_in : (p t : ℕ) → p * (2 * t) ≡ 2 * p * t
twice_in p t = sym (mul_assoc p 2 t) ∙ ap (λ n. n * t) (mul_comm p 2)

one_more : (p t rest : ℕ) → p * (2 * t) + (t + rest) ≡ (2 * p + 1) * t + rest
one_more p t rest = let e = twice_in p t in let f = add-mul (2 * p) 1 t in omega (arith, e, f)

none_more : (p t rest : ℕ) → p * (2 * t) + (0 + rest) ≡ (2 * p + 0) * t + rest
none_more p t rest = let e = twice_in p t in let f = add-mul (2 * p) 0 t in omega (arith, e, f)

-- the places so far, and those of a number's square
pub next_place : (k places m : ℕ) → places * 2 ^ suc k + log_places (suc k) m
    ≡ (2 * places + (if leb (2 ^ 33) (squared m) then 1 else 0)) * 2 ^ k
    + log_places k (if leb (2 ^ 33) (squared m) then squared m / 2 else squared m)
unfolding log_places
next_place k places m = by_bool (leb (2 ^ 33) (squared m))
    (λ e. rw (e, twice_power k) (one_more places (2 ^ k) (log_places k (squared m / 2))))
    (λ e. rw (e, twice_power k) (none_more places (2 ^ k) (log_places k (squared m))))

-- the same of numbers that were worked out
pub place_step : (left k places m place next all : ℕ) → left ≡ suc k →
    place ≡ (if leb (2 ^ 33) (squared m) then 1 else 0) →
    next ≡ (if leb (2 ^ 33) (squared m) then squared m / 2 else squared m) →
    places * 2 ^ left + log_places left m ≡ all → (2 * places + place) * 2 ^ k + log_places k next ≡ all
place_step left k places m place next all is place_is next_is h =
    rw (place_is, next_is)
    (sym (next_place k places m) ∙ subst (λ n. places * 2 ^ n + log_places n m ≡ all) is h)

-- the places so far leave room for those that are left
pub fits_step : (left k places place : ℕ) → left ≡ suc k → place ≤ 1 → places * 2 ^ left + 2 ^ left ≤ 2 ^ 32 →
    (2 * places + place) * 2 ^ k + 2 ^ k ≤ 2 ^ 32
fits_step left k places place is most h =
    let one : (2 * places + place) * 2 ^ k ≤ (2 * places + 1) * 2 ^ k =
    mul-le-mul_right (2 ^ k) (omega (arith, most)) in
    let two : (2 * places + 1) * 2 ^ k ≡ 2 * places * 2 ^ k + 1 * 2 ^ k = add-mul (2 * places) 1 (2 ^ k) in
    let three : places * 2 ^ suc k + 2 ^ suc k ≤ 2 ^ 32 = subst (λ n. places * 2 ^ n + 2 ^ n ≤ 2 ^ 32) is h in
    let four : places * (2 * 2 ^ k) + 2 * 2 ^ k ≤ 2 ^ 32 =
    subst (λ n. places * n + n ≤ 2 ^ 32) (twice_power k) three in
    let five = twice_in places (2 ^ k) in
    omega (arith, one, two, four, five)

-- so they are below 2^32
pub places_fit : (left places : ℕ) → places * 2 ^ left + 2 ^ left ≤ 2 ^ 32 → places < 2 ^ 32
places_fit left places h =
    let some = power_some left in
    let most : places * 1 ≤ places * 2 ^ left = mul-le-mul_left places some in
    omega (arith, some, most, h)

-- where none are left, they are all
pub places_end : (left places m all : ℕ) → left ≡ 0 → places * 2 ^ left + log_places left m ≡ all → places ≡ all
unfolding log_places
places_end left places m all is h =
    let e : places * 2 ^ 0 + 0 ≡ all = subst (λ n. places * 2 ^ n + log_places n m ≡ all) is h in
    omega (arith, e)
