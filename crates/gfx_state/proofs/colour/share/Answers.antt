use Rattle.std.proofs.Common.{arith}
use Rattle.std.specs.Prelude.{unsigned_abs}
use Rattle.std.proofs.lemmas.Int.{ints}
use Rattle.std.proofs.Math.Nat.{mul-le-mul}
use Rattle.gfx_state.proofs.colour.share.Goals as goal

-- a quotient is no greater than what is divided
pub fix_small-requires : goal.fix_small-requires
fix_small-requires c =
    let more = mul-le-mul {n₁ = 1} {m₁ = unsigned_abs c.div_round.result} {n₂ = unsigned_abs c.of_size-2.result} {m₂ =
    unsigned_abs c.div_round.result} (omega (arith, ints, c.of_size-2.ensures, c.from-2.ensures, c.requires.some))
    (omega arith) in
    omega (
      arith,
      ints,
      more,
      c.div_round.ensures.bound,
      c.of_size.ensures,
      c.of_size-2.ensures,
      c.requires.part,
      c.requires.small,
    )
