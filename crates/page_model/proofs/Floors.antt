-- The quotient that `div_euclid` gives by a positive number is rounded down.
use Rattle.std.proofs.Common.{ℕ, ◌+◌, ◌*◌, ◌<◌, ◌≤◌, arith}
use Rattle.std.specs.Prelude.{ℤ, pos, negsuc, ◌*ℤ◌, ◌≤ℤ◌, ◌<ℤ◌}
use Rattle.std.proofs.lemmas.Int.{ints}
use Rattle.std.proofs.lemmas.Nat.{le-div, div_below}
use Rattle.std.proofs.Math.Nat.{mul-div-le, lt-mul-div-succ}
use Rattle.page_model.specs.Sample.{floor_quotient}
use Rattle.page_model.specs.Laws.{IsFloor}

fits : (a : ℤ) (b : ℕ) → 0 < b → (pos b *ℤ floor_quotient a (pos b)) ≤ℤ a
fits (pos a) b h = let e = mul-div-le a b in omega (arith, ints)
fits (negsuc a) b h = let e = lt-mul-div-succ a h in omega (arith, ints)

greatest : (a : ℤ) (b : ℕ) (p : ℤ) → 0 < b → (pos b *ℤ p) ≤ℤ a → p ≤ℤ floor_quotient a (pos b)
greatest (pos a) b (pos p) h e = let m : p * b ≤ a = omega (arith, ints) in let q = le-div p a b h m in
    omega (arith, ints)
greatest (pos a) b (negsuc p) h e = omega (arith, ints)
greatest (negsuc a) b (pos p) h e = omega (arith, ints)
greatest (negsuc a) b (negsuc p) h e = omega
    (arith, ints, div_below a b (p + 1) h (let m : a < (p + 1) * b = omega (arith, ints) in m))

-- a quotient rounded down is the greatest number whose product with the divisor doesn't pass the dividend
pub floor_is_greatest : (n d : ℤ) → pos 0 <ℤ d → IsFloor n d (floor_quotient n d)
floor_is_greatest n (pos k) h = record {
  fits = fits n k (omega (arith, ints));
  greatest = λ p e. greatest n k p (omega (arith, ints)) e;
}
floor_is_greatest n (negsuc k) h = absurd (omega (arith, ints))
