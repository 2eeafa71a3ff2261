-- What the laws speak of. Own rule: words of the laws alone.
use Rattle.std.specs.Prelude.{◌⊎◌, ℤ, pos, ◌*ℤ◌, ◌≤ℤ◌}

-- q is the greatest whole number with d q ≤ n
pub record IsFloor (n d q : ℤ) : Type 0 where
  pub fits : (d *ℤ q) ≤ℤ n
  pub greatest : (p : ℤ) → (d *ℤ p) ≤ℤ n → p ≤ℤ q

-- two winding numbers that aren't of opposite signs
abbrev pub GoOneWay : ℤ → ℤ → Type 0
GoOneWay w v = ((pos 0 ≤ℤ w) × (pos 0 ≤ℤ v)) ⊎ ((w ≤ℤ pos 0) × (v ≤ℤ pos 0))
