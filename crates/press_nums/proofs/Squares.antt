-- Squares of whole numbers.
use Rattle.std.proofs.Common.{◌≡◌, refl, ℕ, ◌+◌, ◌*◌, ◌<◌, ◌≤◌, inl, inr, ℤ, pos, negsuc, arith}
use Rattle.std.specs.Prelude.{◌*ℤ◌, unsigned_abs}
use Rattle.std.proofs.lemmas.Bool.{cases_lt}
use Rattle.std.proofs.Math.Nat.{mul-le-mul_left}

-- a square is that of the magnitude
pub square_of : (e : ℤ) → e *ℤ e ≡ pos (unsigned_abs e * unsigned_abs e)
square_of (pos n) = refl
square_of (negsuc n) = refl

-- a greater number has a greater square
pub square_below : (r n : ℕ) → r < n → r * r < n * n
square_below r n less =
    let one : n * (r + 1) ≤ n * n = mul-le-mul_left n (omega arith) in
    let two : r * (r + 1) ≤ r * n = mul-le-mul_left r (omega arith) in
    omega arith

-- of two numbers the one whose square isn't greater isn't greater
pub root_at_most : (r n : ℕ) → n * n ≤ r * r → n ≤ r
root_at_most r n squares = elim (cases_lt r n) [
  | inl less ↦
      absurd (let more = square_below r n less in omega arith)
  | inr most ↦ most
]
