use Rattle.std.proofs.Common.{arith, rules}
use Rattle.icc_power.proofs.Raising.{none_found, filled_more, filled_whole}
use Rattle.icc_power.proofs.powers.Roots.new.Goals as goal

-- none is found yet
pub loop-k-init : goal.loop-k-init
loop-k-init c = record {
  all = none_found;
  small = omega arith;
  long = search rules;
}

-- one root more
pub loop-k-preserved : goal.loop-k-preserved
loop-k-preserved c = record {
  all = filled_more c.loop-k.roots c.loop-k.k c.loop-k.s c.root_of-s.result c.loop-k-test.true
      c.loop-k.invariant.long c.root_of-s.ensures.value c.loop-k.invariant.all;
  small = c.root_of-s.ensures.bound;
  long = search rules;
}

-- all are found
pub invariant_of-result : goal.invariant_of-result
invariant_of-result c = filled_whole c.loop-k.roots c.loop-k.k c.loop-k.s (omega (arith, c.loop-k-test.false))
    c.loop-k.invariant.long c.loop-k.invariant.all

pub returns : goal.returns
returns c = filled_whole c.loop-k.roots c.loop-k.k c.loop-k.s (omega (arith, c.loop-k-test.false))
    c.loop-k.invariant.long c.loop-k.invariant.all
