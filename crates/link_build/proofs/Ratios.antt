-- A quotient that is taken into a range, from two numbers that fit 64 bits.
use Rattle.std.proofs.Common.{◌≡◌, ℕ, zero, suc, ◌*◌, ◌<◌, ◌≤◌, arith, ap, refl}
use Rattle.std.specs.Prelude.{ℤ, pos, negsuc, neg_ℤ, ◌*ℤ◌, ◌≤ℤ◌, ◌<ℤ◌, unsigned_abs}
use Rattle.std.proofs.lemmas.Int.{ints}
use Rattle.press_nums.specs.Rounding.{div_round}
use Rattle.press_nums.proofs.Nearest.{nearest}
use Rattle.icc_tables.specs.Rounded.{clamped, rounded}
use Rattle.icc_tables.specs.Pcs.{PcsValue}
use Rattle.icc_tables.proofs.Tables.{rounded_most}
use Rattle.icc_model.specs.Direct.{dot, solved}

clamped_low : (q : ℤ) → q ≤ℤ pos 0 → unsigned_abs (clamped (pos 0) (pos 65535) q) ≡ 0
clamped_low q h = grind (arith, ints, h)

clamped_high : (q : ℤ) → pos 65535 ≤ℤ q → unsigned_abs (clamped (pos 0) (pos 65535) q) ≡ 65535
clamped_high q h = grind (arith, ints, h)

clamped_within : (q : ℕ) → q ≤ 65535 → unsigned_abs (clamped (pos 0) (pos 65535) (pos q)) ≡ q
clamped_within q h = grind (arith, ints, h)

not_above : (d q : ℤ) → pos 0 <ℤ d → (d *ℤ pos 2 *ℤ q) ≤ℤ d → q ≤ℤ pos 0
not_above (pos d) (pos zero) h e = omega (arith, ints)
not_above (pos d) (pos (suc q)) h e = absurd (omega (arith, ints, h, e))
not_above (pos d) (negsuc q) h e = omega (arith, ints)
not_above (negsuc d) q h e = absurd (omega (arith, ints, h))

-- nothing, or less
pub none_of : (n d : ℤ) → pos 0 <ℤ d → n ≤ℤ pos 0 →
    unsigned_abs (clamped (pos 0) (pos 65535) (div_round (n *ℤ pos 65535) d)) ≡ 0
none_of n d h e =
    let fits = (nearest (n *ℤ pos 65535) d h).fits in
    let below : (d *ℤ pos 2 *ℤ div_round (n *ℤ pos 65535) d) ≤ℤ d = omega (arith, ints, fits, e) in
    clamped_low (div_round (n *ℤ pos 65535) d) (not_above d (div_round (n *ℤ pos 65535) d) h below)

-- the whole, or more
pub all_of : (n d : ℤ) → pos 0 <ℤ d → d ≤ℤ n →
    unsigned_abs (clamped (pos 0) (pos 65535) (div_round (n *ℤ pos 65535) d)) ≡ 65535
all_of n d h e =
    let near = nearest (n *ℤ pos 65535) d h in
    clamped_high (div_round (n *ℤ pos 65535) d) (near.greatest (pos 65535) (omega (arith, ints, h, e)))

quotient_is : (m k : ℕ) → div_round (pos m *ℤ pos 65535) (pos k) ≡ pos (rounded (m * 65535) k)
unfolding div_round rounded
quotient_is m k = refl

-- a part
pub part_of : (m k : ℕ) → m < k →
    unsigned_abs (clamped (pos 0) (pos 65535) (div_round (pos m *ℤ pos 65535) (pos k))) ≡ rounded (m * 65535) k
part_of m k h = rw (quotient_is m k)
    (clamped_within _ (rounded_most (m * 65535) k 65535 (omega (arith, h)) (omega (arith, h))))

part_as : (n d : ℤ) → pos 0 <ℤ n → n <ℤ d → unsigned_abs n < unsigned_abs d →
    unsigned_abs (clamped (pos 0) (pos 65535) (div_round (n *ℤ pos 65535) d))
    ≡ rounded (unsigned_abs n * 65535) (unsigned_abs d)
part_as (pos m) (pos k) h e f = part_of m k f
part_as (negsuc m) d h e f = absurd (omega (arith, ints, h))
part_as (pos m) (negsuc k) h e f = absurd (omega (arith, ints, h, e))

-- a part, by the magnitudes
pub part_is : (n d : ℤ) → pos 0 <ℤ n → n <ℤ d →
    unsigned_abs (clamped (pos 0) (pos 65535) (div_round (n *ℤ pos 65535) d))
    ≡ rounded (unsigned_abs n * 65535) (unsigned_abs d)
part_is n d h e = part_as n d h e (omega (arith, ints, h, e))

-- a determinant above 0 divides as it is
pub solved_positive : (det : ℤ) (row xyz : PcsValue) → pos 0 <ℤ det →
    unsigned_abs (solved det row xyz)
    ≡ unsigned_abs (clamped (pos 0) (pos 65535) (div_round (dot row xyz *ℤ pos 65535) det))
solved_positive (pos d) row xyz h = refl
solved_positive (negsuc d) row xyz h = absurd (omega (arith, ints, h))

negated_first : (n : ℤ) → neg_ℤ (n *ℤ pos 65535) ≡ neg_ℤ n *ℤ pos 65535
negated_first n = omega (arith, ints)

-- a determinant below 0 divides with both signs changed
pub solved_negative : (det : ℤ) (row xyz : PcsValue) → det <ℤ pos 0 →
    unsigned_abs (solved det row xyz)
    ≡ unsigned_abs (clamped (pos 0) (pos 65535) (div_round (neg_ℤ (dot row xyz) *ℤ pos 65535) (neg_ℤ det)))
solved_negative (pos d) row xyz h = absurd (omega (arith, ints, h))
solved_negative (negsuc d) row xyz h =
    ap (λ (z : ℤ). unsigned_abs (clamped (pos 0) (pos 65535) (div_round z (pos (suc d)))))
    (negated_first (dot row xyz))
