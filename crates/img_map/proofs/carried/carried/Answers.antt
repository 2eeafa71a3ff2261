use Rattle.std.proofs.Common.{arith}
use Rattle.std.proofs.lemmas.Int.{ints}
use Rattle.img_map.proofs.Carrying.{without_carry, with_carry}
use Rattle.img_map.proofs.carried.carried.Goals as goal

pub returns-then-is_below : goal.returns-then-is_below
returns-then-is_below c = λ n g one other. without_carry n g _ _ _ _ _ _ _ one other c.add-quotient.ensures.value
    c.add-remainder.ensures.value (omega (arith, ints, c.if-is_below.ensures))

pub returns-else-is_below : goal.returns-else-is_below
returns-else-is_below c = λ n g one other. with_carry n g _ _ _ _ _ _ _ _ _ one other c.add-quotient.ensures.value
    c.add-remainder.ensures.value (omega (arith, ints, c.if-is_below.ensures))
    (omega (arith, ints, c.add.ensures.value, c.of.ensures)) c.sub.ensures.value
