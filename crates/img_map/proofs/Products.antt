-- Signs and orders of products of whole numbers.
use Rattle.std.proofs.Common.{◌≡◌, refl, ℕ, ◌+◌, ◌*◌, ◌<◌, ◌≤◌, arith, zero, suc}
use Rattle.std.specs.Prelude.{ℤ, pos, negsuc, neg_ℤ, ◌+ℤ◌, ◌-ℤ◌, ◌*ℤ◌, ◌<ℤ◌, ◌≤ℤ◌}
use Rattle.std.proofs.lemmas.Int.{ints}
use Rattle.std.proofs.Math.Nat.{mul-le-mul_left}
use Rattle.press_nums.proofs.Products.{over_sum}

-- a product of a positive number and one from 0 on
pub not_below_zero : (g s : ℤ) → pos 0 <ℤ g → pos 0 ≤ℤ s → pos 0 ≤ℤ (g *ℤ s)
not_below_zero (pos g) (pos s) some up = omega (arith, ints)
not_below_zero (pos g) (negsuc s) some up = absurd (omega (arith, ints))
not_below_zero (negsuc g) s some up = absurd (omega (arith, ints))

-- a product of a positive number and a negative one is the positive one's negative or below
pub below_negative : (g s : ℤ) → pos 0 <ℤ g → s <ℤ pos 0 → (g *ℤ s +ℤ g) ≤ℤ pos 0
below_negative (pos g) (negsuc s) some down =
    let more : g * 1 ≤ g * (s + 1) = mul-le-mul_left g (omega arith) in omega (arith, ints)
below_negative (pos g) (pos s) some down = absurd (omega (arith, ints))
below_negative (negsuc g) s some down = absurd (omega (arith, ints))

-- products keep an order
pub products_rise : (g a b : ℤ) → pos 0 <ℤ g → a ≤ℤ b → (g *ℤ a) ≤ℤ (g *ℤ b)
products_rise g a b some up =
    let parts : (g *ℤ b) ≡ (g *ℤ a +ℤ g *ℤ (b -ℤ a)) =
    over_sum g a (b -ℤ a) b (let e : b ≡ (a +ℤ (b -ℤ a)) = omega (arith, ints) in e) in
    let more : pos 0 ≤ℤ (g *ℤ (b -ℤ a)) = not_below_zero g (b -ℤ a) some (omega (arith, ints)) in
    omega (arith, ints, parts, more)

-- a product with a negative
pub opposite : (g : ℤ) (k : ℕ) → (neg_ℤ g *ℤ pos k) ≡ neg_ℤ (g *ℤ pos k)
opposite (pos zero) k = omega (arith, ints)
opposite (pos (suc n)) k = omega (arith, ints)
opposite (negsuc n) k = omega (arith, ints)
