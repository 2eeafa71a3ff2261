-- Sine and cosine lie from -1 to 1, and the sine of half a turn more is the negative.
use Rattle.std.proofs.Common.{◌≡◌, ℕ, zero, suc, ◌+◌, ◌-◌, ◌*◌, ◌%◌, ◌<◌, ◌≤◌, Bool, true, false, leb, arith, ap, sym}
use Rattle.std.proofs.Common.{refl, ◌∙◌}
use Rattle.std.specs.Prelude.{ℤ, pos, negsuc, neg_ℤ, ◌+ℤ◌, ◌*ℤ◌, ◌≤ℤ◌, unsigned_abs}
use Rattle.std.specs.Int.{int_rem_euclid}
use Rattle.std.proofs.lemmas.Int.{ints, int_rem_euclid_is}
use Rattle.std.proofs.lemmas.Nat.{div_below}
use Rattle.std.proofs.lemmas.Bool.{leb-true, leb-false, le-leb, lt-leb}
use Rattle.std.proofs.Math.Nat.{mul-le-mul}
use Rattle.proof_words.proofs.Cases.{by_bool}
use Rattle.press_nums.specs.Rounding.{div_round}
use Rattle.geo_matrix.specs.Sine.{one, step, arc_of, square_of, sine_sum, cosine_sum, sine_series, cosine_series}
use Rattle.geo_matrix.specs.Sine.{quarter_sine, half_sine, turn_sine, sine_of, cosine_of}

-- from 0 to `most`
record IsUpTo (most : ℕ) (z : ℤ) : Type 0 where
  low : pos 0 ≤ℤ z
  high : z ≤ℤ pos most

rounded_up_to : (n d most : ℕ) → 0 < d → n ≤ most * d → IsUpTo most (div_round (pos n) (pos d))
unfolding div_round
rounded_up_to n d most h e =
    let small = div_below (n * 2 + d) (d * 2) (most + 1) (omega (arith, h)) (omega (arith, e, h)) in
    record { low = omega (arith, ints); high = omega (arith, ints, small) }

-- a product of two parts of 1, rounded to a part of 1
product_up_to : (a b : ℤ) → IsUpTo 4294967296 a → IsUpTo 4294967296 b → (d : ℕ) → 4294967296 ≤ d →
    IsUpTo 4294967296 (div_round (a *ℤ b) (pos d))
product_up_to (pos a) (pos b) h g d e =
    let most : a * b ≤ 4294967296 * d = mul-le-mul {n₁ = a} {m₁ = b} {n₂ = 4294967296} {m₂ = d}
    (omega (arith, ints, h.high)) (omega (arith, ints, g.high, e)) in
    rounded_up_to (a * b) d 4294967296 (omega (arith, e)) most
product_up_to (pos a) (negsuc b) h g d e = absurd (omega (arith, ints, g.low))
product_up_to (negsuc a) b h g d e = absurd (omega (arith, ints, h.low))

step_up_to : (z p : ℤ) (m : ℕ) → IsUpTo 4294967296 z → IsUpTo 4294967296 p → 1 ≤ m → IsUpTo 4294967296 (step z p m)
step_up_to z p m h g e =
    let q = product_up_to z p h g (4294967296 * m) (omega (arith, e)) in
    record { low = omega (arith, ints, q.low, q.high); high = omega (arith, ints, q.low, q.high) }

one_up_to : IsUpTo 4294967296 one
one_up_to = record { low = omega (arith, ints); high = omega (arith, ints) }

arc_up_to : (q : ℕ) → q ≤ 2949120 → IsUpTo 4294967296 (arc_of q)
arc_up_to q h = rounded_up_to (q * 74961321) 65536 4294967296 (omega arith) (omega (arith, h))

square_up_to : (t : ℤ) → IsUpTo 4294967296 t → IsUpTo 4294967296 (square_of t)
square_up_to t h = product_up_to t t h h 4294967296 (omega arith)

sine_sum_up_to : (z : ℤ) → IsUpTo 4294967296 z → IsUpTo 4294967296 (sine_sum z)
sine_sum_up_to z h =
    step_up_to z _ 6 h (step_up_to z _ 20 h (step_up_to z _ 42 h (step_up_to z _ 72 h one_up_to (omega arith))
    (omega arith)) (omega arith)) (omega arith)

cosine_sum_up_to : (z : ℤ) → IsUpTo 4294967296 z → IsUpTo 4294967296 (cosine_sum z)
cosine_sum_up_to z h =
    step_up_to z _ 2 h (step_up_to z _ 12 h (step_up_to z _ 30 h (step_up_to z _ 56 h one_up_to (omega arith))
    (omega arith)) (omega arith)) (omega arith)

-- from a count of 1/2^32 to one of 1/65536
cut_up_to : (z : ℤ) → IsUpTo 4294967296 z → IsUpTo 65536 (div_round z (pos 65536))
cut_up_to (pos z) h = rounded_up_to z 65536 65536 (omega arith) (omega (arith, ints, h.high))
cut_up_to (negsuc z) h = absurd (omega (arith, ints, h.low))

sine_series_up_to : (q : ℕ) → q ≤ 2949120 → IsUpTo 65536 (sine_series q)
unfolding sine_series
sine_series_up_to q h =
    let t = arc_up_to q h in
    cut_up_to _ (product_up_to _ _ t (sine_sum_up_to _ (square_up_to _ t)) 4294967296 (omega arith))

cosine_series_up_to : (q : ℕ) → q ≤ 2949120 → IsUpTo 65536 (cosine_series q)
unfolding cosine_series
cosine_series_up_to q h = cut_up_to _ (cosine_sum_up_to _ (square_up_to _ (arc_up_to q h)))

quarter_up_to : (q : ℕ) → q ≤ 5898240 → IsUpTo 65536 (quarter_sine q)
quarter_up_to q h = by_bool (leb q 2949120)
    (λ e. rw e (sine_series_up_to q (leb-true q 2949120 e)))
    (λ e. rw e (cosine_series_up_to (5898240 - q) (omega (arith, leb-false q 2949120 e))))

half_up_to : (q : ℕ) → q ≤ 11796480 → IsUpTo 65536 (half_sine q)
half_up_to q h = by_bool (leb 5898241 q)
    (λ e. rw e (quarter_up_to (11796480 - q) (omega (arith, leb-true 5898241 q e))))
    (λ e. rw e (quarter_up_to q (omega (arith, leb-false 5898241 q e))))

turn_bound : (q : ℕ) → q < 23592960 → unsigned_abs (turn_sine q) ≤ 65536
turn_bound q h = by_bool (leb 11796480 q)
    (λ e. rw e (let b = half_up_to (q - 11796480) (omega (arith, h)) in omega (arith, ints, b.low, b.high)))
    (λ e. rw e (let b = half_up_to q (omega (arith, leb-false 11796480 q e)) in omega (arith, ints, b.low, b.high)))

remainder_below : (raw : ℤ) → unsigned_abs (int_rem_euclid raw (pos 23592960)) < 23592960
remainder_below (pos a) = omega arith
remainder_below (negsuc a) = omega arith

-- a sine is from -1 to 1
pub sine_bound : (raw : ℤ) → unsigned_abs (sine_of raw) ≤ 65536
sine_bound raw = turn_bound _ (remainder_below raw)

-- a cosine is from -1 to 1
pub cosine_bound : (raw : ℤ) → unsigned_abs (cosine_of raw) ≤ 65536
cosine_bound raw = sine_bound (raw +ℤ pos 5898240)

twice_negated : (z : ℤ) → neg_ℤ (neg_ℤ z) ≡ z
twice_negated (pos zero) = refl
twice_negated (pos (suc n)) = refl
twice_negated (negsuc n) = refl

half_turned : (q r : ℕ) → q < 23592960 → r ≡ (q + 11796480) % 23592960 → turn_sine r ≡ neg_ℤ (turn_sine q)
half_turned q r h e = by_bool (leb 11796480 q)
    (λ b. let low = leb-true 11796480 q b in
    let same : r ≡ q - 11796480 = omega (arith, low, h, e) in
    let less : leb 11796480 r ≡ false = lt-leb 11796480 r (omega (arith, h, same, low)) in
    rw (b, less) (sym (twice_negated (half_sine (q - 11796480)) ∙ ap half_sine (sym same))))
    (λ b. let high = leb-false 11796480 q b in
    let same : r ≡ q + 11796480 = omega (arith, high, e) in
    let less : leb 11796480 r ≡ true = le-leb 11796480 r (omega (arith, same)) in
    let start : r - 11796480 ≡ q = omega (arith, same) in
    rw (b, less, start) refl)

-- an angle and half a turn more, by remainders
remainders : (raw : ℤ) → unsigned_abs (int_rem_euclid (raw +ℤ pos 11796480) (pos 23592960))
    ≡ (unsigned_abs (int_rem_euclid raw (pos 23592960)) + 11796480) % 23592960
remainders (pos a) = omega arith
remainders (negsuc a) =
    let whole = int_rem_euclid_is (negsuc a +ℤ pos 11796480) (pos 23592960) 23592960 (a + 1)
    ((a + 1) * 23592960 + 11796480 - (a + 1)) (omega arith) refl (omega (arith, ints)) in
    rw whole (omega arith)

-- half a turn more changes the sign of a sine
pub half_turn : (raw : ℤ) → sine_of (raw +ℤ pos 11796480) ≡ neg_ℤ (sine_of raw)
half_turn raw = half_turned _ _ (remainder_below raw) (remainders raw)
