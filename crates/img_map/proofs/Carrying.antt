-- A quotient and what is left of it, from one dot to the next.
use Rattle.std.proofs.Common.{◌≡◌, refl, ℕ, ◌+◌, ◌*◌, ◌<◌, ◌≤◌, ◌^◌, arith}
use Rattle.std.specs.Prelude.{ℤ, pos, negsuc, ◌+ℤ◌, ◌-ℤ◌, ◌*ℤ◌, ◌<ℤ◌, ◌≤ℤ◌, unsigned_abs}
use Rattle.std.proofs.lemmas.Int.{ints, by_lt_z}
use Rattle.std.proofs.Math.Nat.{mul-le-mul_left}
use Rattle.press_nums.specs.Floor.{IsFloorDivision}
use Rattle.press_nums.specs.declared.floor.FloorDivision.{FloorDivision}
use Rattle.press_nums.proofs.Floors.{floor_parts}
use Rattle.press_nums.proofs.Products.{over_sum}
use Rattle.page_model.specs.Sample.{floor_quotient}
use Rattle.img_map.specs.Code.Carried.{IsDivided, IsSmallDivision, IsPlace}
use Rattle.img_map.specs.Code.Runs.{IsAmong}
use Rattle.img_map.proofs.Products.{products_rise}

-- what is left of two dividends makes no divisor
pub without_carry : (n g d q r s t sum rest : ℤ) → IsFloorDivision n d q r → IsFloorDivision g d s t →
    sum ≡ (q +ℤ s) → rest ≡ (r +ℤ t) → rest <ℤ d → IsFloorDivision (n +ℤ g) d sum rest
without_carry n g d q r s t sum rest one other adds left less =
    let both : (d *ℤ sum) ≡ (d *ℤ q +ℤ d *ℤ s) = over_sum d q s sum adds in
    let first = one.whole in
    let first_low = one.low in
    let second = other.whole in
    let second_low = other.low in
    record {
      whole = omega (arith, ints, both, first, second, left);
      low = omega (arith, ints, first_low, second_low, left);
      high = less;
    }

-- what is left of two dividends makes a divisor more
pub with_carry : (n g d q r s t sum rest next less : ℤ) → IsFloorDivision n d q r → IsFloorDivision g d s t →
    sum ≡ (q +ℤ s) → rest ≡ (r +ℤ t) → d ≤ℤ rest → next ≡ (sum +ℤ pos 1) → less ≡ (rest -ℤ d) →
    IsFloorDivision (n +ℤ g) d next less
with_carry n g d q r s t sum rest next less one other adds left more steps takes =
    let both : (d *ℤ sum) ≡ (d *ℤ q +ℤ d *ℤ s) = over_sum d q s sum adds in
    let again : (d *ℤ next) ≡ (d *ℤ sum +ℤ d *ℤ pos 1) = over_sum d sum (pos 1) next steps in
    let once : (d *ℤ pos 1) ≡ d = omega (arith, ints) in
    let first = one.whole in
    let first_high = one.high in
    let second = other.whole in
    let second_high = other.high in
    record {
      whole = omega (arith, ints, both, again, once, first, second, left, takes);
      low = omega (arith, ints, more, takes);
      high = omega (arith, ints, first_high, second_high, left, takes);
    }

-- two quotients of one dividend, of which neither is above the other
no_greater : (n d a b : ℤ) → pos 0 <ℤ d → (d *ℤ a) ≤ℤ n → n <ℤ (d *ℤ b +ℤ d) → a ≤ℤ b
no_greater n d a b some fits less =
    by_lt_z b a
    (λ above. let next : (d *ℤ (b +ℤ pos 1)) ≤ℤ (d *ℤ a) = products_rise d (b +ℤ pos 1) a some (omega (arith, ints)) in
    let split : (d *ℤ (b +ℤ pos 1)) ≡ (d *ℤ b +ℤ d *ℤ pos 1) = over_sum d b (pos 1) (b +ℤ pos 1) refl in
    let once : (d *ℤ pos 1) ≡ d = omega (arith, ints) in
    absurd (omega (arith, ints, next, split, once, fits, less)))
    (λ order. order)

-- a quotient with what it leaves is the quotient that is rounded down
pub is_the_quotient : (n d q r : ℤ) → pos 0 <ℤ d → IsFloorDivision n d q r → floor_quotient n d ≡ q
is_the_quotient n d q r some parts =
    let floor = floor_parts n d some in
    let whole = parts.whole in
    let low = parts.low in
    let high = parts.high in
    let up : floor_quotient n d ≤ℤ q =
    no_greater n d (floor_quotient n d) q some floor.fits (omega (arith, ints, whole, high)) in
    let down : q ≤ℤ floor_quotient n d =
    no_greater n d q (floor_quotient n d) some (omega (arith, ints, whole, low)) floor.less in
    omega (arith, ints, up, down)

-- a dividend from 0 on and below so many divisors has a quotient from 0 on and below that count
pub among_places : (count : ℕ) (n d q r : ℤ) → pos 0 <ℤ d → IsFloorDivision n d q r → IsAmong (d *ℤ pos count) n →
    IsPlace count q
among_places count n d q r some parts among =
    let whole = parts.whole in
    let left = parts.low in
    let rest = parts.high in
    let low = among.low in
    let high = among.high in
    let none : (d *ℤ pos 0) ≡ pos 0 = omega (arith, ints) in
    let split : (d *ℤ (q +ℤ pos 1)) ≡ (d *ℤ q +ℤ d *ℤ pos 1) = over_sum d q (pos 1) (q +ℤ pos 1) refl in
    let once : (d *ℤ pos 1) ≡ d = omega (arith, ints) in
    record {
      low = no_greater n d (pos 0) q some (omega (arith, ints, none, low)) (omega (arith, ints, whole, rest));
      high =
          by_lt_z q (pos count)
          (λ less. less)
          (λ past. let more : (d *ℤ pos count) ≤ℤ (d *ℤ q) = products_rise d (pos count) q some past in
          absurd (omega (arith, ints, more, whole, left, high)));
    }

-- a quotient whose product with a divisor is bounded
pub quotient_is_near : (q d bound : ℕ) → 1 ≤ d → q * d ≤ bound → q ≤ bound
quotient_is_near q d bound some fits = let more : q * 1 ≤ q * d = mul-le-mul_left q some in omega (arith, more, fits)

-- the quotient and the rest of a step are small
pub step_is_small : (n d : ℤ) (at : FloorDivision) → pos 0 <ℤ d → unsigned_abs n < 2 ^ 90 → unsigned_abs d < 2 ^ 89 →
    unsigned_abs at.quotient * unsigned_abs d ≤ unsigned_abs n + unsigned_abs d → IsDivided n d at →
    IsSmallDivision at
step_is_small n d at some few small bound parts =
    let near : unsigned_abs at.quotient ≤ unsigned_abs n + unsigned_abs d =
    quotient_is_near (unsigned_abs at.quotient) (unsigned_abs d) (unsigned_abs n + unsigned_abs d)
    (omega (arith, ints, some)) bound in
    let low = parts.low in
    let high = parts.high in
    record { quotient = omega (arith, near, few, small); remainder = omega (arith, ints, low, high, small) }

-- what is carried inside an image is small
pub place_is_small : (count : ℕ) (n d : ℤ) (at : FloorDivision) → count < 2 ^ 32 → unsigned_abs d < 2 ^ 89 →
    IsDivided n d at → IsPlace count at.quotient → IsSmallDivision at
place_is_small count n d at few small parts place =
    let low = parts.low in
    let high = parts.high in
    let from = place.low in
    let below = place.high in
    record {
      quotient = omega (arith, ints, from, below, few);
      remainder = omega (arith, ints, low, high, small);
    }
