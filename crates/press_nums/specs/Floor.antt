-- Division that rounds down. Own rule: what is left is never negative, so that a count which grows by the same
-- quotient and remainder at each step stays exact.
use Rattle.std.specs.Prelude.{◌≡◌, ℤ, pos, ◌+ℤ◌, ◌*ℤ◌, ◌≤ℤ◌, ◌<ℤ◌}

-- a number is a divisor times a quotient and what is left, which is from 0 on and below the divisor
pub record IsFloorDivision (n d quotient remainder : ℤ) : Type 0 where
  pub whole : n ≡ d *ℤ quotient +ℤ remainder
  pub low : pos 0 ≤ℤ remainder
  pub high : remainder <ℤ d
