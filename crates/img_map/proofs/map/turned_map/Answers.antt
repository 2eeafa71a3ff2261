use Rattle.std.proofs.Common.{arith}
use Rattle.std.proofs.lemmas.Int.{ints}
use Rattle.img_map.proofs.map.turned_map.Goals as goal

pub invariant_of-result : goal.invariant_of-result
invariant_of-result c = record {
  a = omega (arith, c.negated.ensures.bound, c.coefficient.ensures.bound);
  b = omega (arith, c.negated-2.ensures.bound, c.coefficient-2.ensures.bound);
  c = omega (arith, c.negated-3.ensures.bound, c.coefficient-3.ensures.bound);
  d = omega (arith, c.negated-4.ensures.bound, c.coefficient-4.ensures.bound);
  tx = omega (arith, c.negated-5.ensures.bound, c.offset.ensures.bound);
  ty = omega (arith, c.negated-6.ensures.bound, c.offset-2.ensures.bound);
  positive = omega (arith, ints, c.negated-7.ensures.value, c.denominator.ensures.value, c.requires.negative);
  den = omega (arith, c.negated-7.ensures.bound, c.denominator.ensures.bound);
}
