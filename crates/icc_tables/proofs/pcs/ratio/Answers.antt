use Rattle.std.proofs.Common.{arith, ◌≡◌, ℕ, ◌≤◌, ◌<◌, ◌*◌, ◌+◌}
use Rattle.std.specs.Prelude.{unsigned_abs}
use Rattle.std.proofs.lemmas.Int.{ints}
use Rattle.std.proofs.Math.Nat.{mul-le-mul}
use Rattle.icc_tables.proofs.pcs.ratio.Goals as goal

-- the least white is 54061
within : (n d q : ℕ) → 54061 ≤ d → d ≤ 65536 → n ≤ 151113421608819433144320 → 2 * (d * q) ≤ 2 * n + d →
    q < 4611686018427387904
within n d q low high f g = let m = mul-le-mul {n₁ = 54061} {m₁ = q} {n₂ = d} {m₂ = q} low (omega arith) in
    omega (arith, high, f, g, m)

scaled : (x s n : ℕ) → x ≤ 131070 → s ≤ 1152921504606846976 → n ≡ x * s → n ≤ 151113421608819433144320
scaled x s n f g e = let m = mul-le-mul {n₁ = x} {m₁ = s} {n₂ = 131070} {m₂ = 1152921504606846976} f g in
    omega (arith, m, e)

pub returns-clause-bound : goal.returns-clause-bound
returns-clause-bound c = within (unsigned_abs c.mul.result) (unsigned_abs c.of-2.result)
    (unsigned_abs c.div_round.result)
    (omega (arith, ints, c.requires.white_low, c.of-2.ensures))
    (omega (arith, ints, c.requires.white_low, c.requires.white_high, c.of-2.ensures))
    (scaled _ _ _ (omega (arith, ints, c.requires.low, c.requires.high))
    (omega (arith, ints, c.of.ensures)) c.mul.ensures.bound) c.div_round.ensures.bound
