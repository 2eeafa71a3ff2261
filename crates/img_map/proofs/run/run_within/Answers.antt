use Rattle.std.proofs.Common.{refl, arith}
use Rattle.std.proofs.lemmas.Int.{ints}
use Rattle.img_map.proofs.Running.{turned_run, same_run, stays}
use Rattle.img_map.proofs.run.run_within.Goals as goal

pub returns-then-is_below-2 : goal.returns-then-is_below-2
returns-then-is_below-2 c = turned_run _ _ _ _ _ _ _ _ _ c.of.ensures c.sub.ensures.value
    c.sub-then-is_below-2.ensures.value c.negated.ensures.value c.rising_run-then-is_below-2.ensures

pub returns-else-is_below-2 : goal.returns-else-is_below-2
returns-else-is_below-2 c = same_run _ _ _ _ _ _ (λ k. stays c.args.place c.args.growth k
    (omega (arith, ints, c.if-is_below.ensures, c.if-is_below-2.ensures))) refl c.level_run.ensures
