use Rattle.std.proofs.Common.{rules, arith, sym, ◌+◌, ◌/◌}
use Rattle.std.proofs.lemmas.Bool.{leb-false}
use Rattle.icc_tables.proofs.Tables.{none_before, back_is}
use Rattle.icc_tables.proofs.curve.by_halving.Goals as goal

-- the middle doesn't reach the value, so no code before it does
pub loop-low-preserved : goal.loop-low-preserved
loop-low-preserved c = record {
  apart = omega (arith, c.loop-low-test.true, c.loop-low.invariant.apart);
  last = c.loop-low.invariant.last;
  below = λ s l. none_before _ c.args.v ((c.loop-low.low + c.loop-low.high) / 2) c.requires.rising c.requires.some
      (omega (arith, c.loop-low.invariant.apart, c.loop-low.invariant.last))
      (leb-false c.args.v _ (sym c.if-reaches.ensures)) s (omega (arith, l));
  high = c.loop-low.invariant.high;
}

pub returns : goal.returns
returns c = back_is _ _ _ (omega (arith, c.loop-low.invariant.apart, c.loop-low.invariant.last))
    (λ l. search rules) c.loop-low.invariant.below
