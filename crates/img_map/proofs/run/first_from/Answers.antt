use Rattle.std.proofs.Common.{arith}
use Rattle.std.specs.Prelude.{unsigned_abs}
use Rattle.std.proofs.lemmas.Int.{ints}
use Rattle.img_map.proofs.Carrying.{quotient_is_near}
use Rattle.img_map.proofs.Running.{before, reached}
use Rattle.img_map.proofs.run.first_from.Goals as goal

pub negated-requires : goal.negated-requires
negated-requires c =
    let near = quotient_is_near _ (unsigned_abs c.args.growth) _ (omega (arith, ints, c.requires.positive))
    c.divide_floor.ensures.bound in
    omega (arith, near, c.sub.ensures.bound, c.requires.place, c.requires.bound, c.requires.growth)

pub returns-clause-before : goal.returns-clause-before
returns-clause-before c = λ k less. before _ _ _ _ _ _ _ k c.requires.positive c.sub.ensures.value
    c.divide_floor.ensures.division c.negated.ensures.value (c.clamped.ensures.before k less)

pub returns-clause-from : goal.returns-clause-from
returns-clause-from c = λ k inside late. reached _ _ _ _ _ _ _ k c.requires.positive c.sub.ensures.value
    c.divide_floor.ensures.division c.negated.ensures.value (c.clamped.ensures.from k inside late)
