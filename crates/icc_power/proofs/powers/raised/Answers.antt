use Rattle.std.proofs.Common.{◌^◌, arith}
use Rattle.icc_power.specs.Power.{two_roots, raised}
use Rattle.icc_power.proofs.Raising.{raise_step, raise_end, bound_step, length_two_roots}
use Rattle.icc_power.proofs.powers.raised.Goals as goal

-- one root more
pub loop-k-preserved : goal.loop-k-preserved
loop-k-preserved c = record {
  all = raise_step two_roots c.loop-k.k c.loop-k.rest c.loop-k.r c.at.result c.with_root-next.result.0
      c.with_root-next.result.1 (raised two_roots c.args.fraction (2 ^ 32))
      (omega (arith, c.loop-k-test.true, length_two_roots)) c.at.ensures.value c.with_root-next.ensures.fraction
      c.with_root-next.ensures.r c.loop-k.invariant.all;
  below = c.with_root-next.ensures.below;
  bound = bound_step c.loop-k.k c.loop-k.r c.with_root-next.result.1 c.with_root-next.ensures.bound
      c.loop-k.invariant.bound;
  few = omega (arith, c.loop-k-test.true);
}

-- none are left
pub returns-clause-value : goal.returns-clause-value
returns-clause-value c = raise_end two_roots c.loop-k.k c.loop-k.rest c.loop-k.r
    (raised two_roots c.args.fraction (2 ^ 32)) (omega (arith, c.loop-k-test.false, length_two_roots))
    c.loop-k.invariant.all
