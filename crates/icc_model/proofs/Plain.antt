-- A plain value of 16 bits rounds to its 8 bits.
use Rattle.std.proofs.Common.{◌≡◌, ℕ, ◌*◌, ◌≤◌, arith}
use Rattle.icc_tables.specs.Rounded.{rounded}
use Rattle.icc_model.specs.Direct.{narrowed}

-- a value of 8 bits, 257 times as great in 16, rounds back
pub rounds_back : (v : ℕ) → v ≤ 255 → narrowed (257 * v) ≡ v
unfolding narrowed rounded
rounds_back v h = omega (arith, h)
