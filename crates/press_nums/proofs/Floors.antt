-- A quotient that is rounded down, and what is left.
use Rattle.std.proofs.Common.{◌≡◌, subst, sym, ◌+◌, ◌*◌, ◌<◌, ◌≤◌, arith}
use Rattle.std.specs.Prelude.{ℤ, pos, negsuc, ◌*ℤ◌, ◌+ℤ◌, ◌-ℤ◌, ◌≤ℤ◌, ◌<ℤ◌, unsigned_abs}
use Rattle.std.specs.Int.{int_div_euclid}
use Rattle.std.proofs.lemmas.Int.{ints}
use Rattle.std.proofs.Math.Nat.{mul-div-le, lt-mul-div-succ}
use Rattle.press_nums.specs.Floor.{IsFloorDivision}

-- what a quotient that is rounded down is, and that its product with the divisor is not far from the dividend
pub record IsFloorOf (n d q : ℤ) : Type 0 where
  pub fits : (d *ℤ q) ≤ℤ n
  pub less : n <ℤ (d *ℤ q +ℤ d)
  pub bound : unsigned_abs q * unsigned_abs d ≤ unsigned_abs n + unsigned_abs d

-- euclidean division by a positive divisor rounds down
pub floor_parts : (n d : ℤ) → pos 0 <ℤ d → IsFloorOf n d (int_div_euclid n d)
floor_parts (pos a) (pos b) h =
    let some : 0 < b = omega (arith, ints) in
    let e = mul-div-le a b in
    let f = lt-mul-div-succ a some in
    record {
      fits = omega (arith, ints);
      less = omega (arith, ints);
      bound = omega (arith, ints);
    }
floor_parts (negsuc a) (pos b) h =
    let some : 0 < b = omega (arith, ints) in
    let e = mul-div-le a b in
    let f = lt-mul-div-succ a some in
    record {
      fits = omega (arith, ints);
      less = omega (arith, ints);
      bound = omega (arith, ints);
    }
floor_parts n (negsuc b) h = absurd (omega (arith, ints))

-- what is left is what the product with the quotient leaves
pub floor_division : (n d q product rest : ℤ) → pos 0 <ℤ d → q ≡ int_div_euclid n d → product ≡ (q *ℤ d) →
    rest ≡ (n -ℤ product) → IsFloorDivision n d q rest
floor_division n d q product rest some is times less =
    let parts = subst (λ (z : ℤ). IsFloorOf n d z) (sym is) (floor_parts n d some) in
    let fits = parts.fits in
    let near = parts.less in
    record {
      whole = omega (arith, ints, times, less);
      low = omega (arith, ints, times, less, fits);
      high = omega (arith, ints, times, less, near);
    }
