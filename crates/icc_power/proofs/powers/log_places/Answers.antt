use Rattle.std.proofs.Common.{◌-◌, arith}
use Rattle.icc_power.specs.Power.{log_places}
use Rattle.icc_power.proofs.Places.{place_step, fits_step, places_end}
use Rattle.icc_power.proofs.powers.log_places.Goals as goal

-- one place more
pub loop-left-preserved : goal.loop-left-preserved
loop-left-preserved c = record {
  all = place_step c.loop-left.left (c.loop-left.left - 1) c.loop-left.places c.loop-left.rest
      c.next_place-place.result.0 c.next_place-place.result.1 (log_places 32 c.args.m)
      (omega (arith, c.loop-left-test.true)) c.next_place-place.ensures.place c.next_place-place.ensures.rest
      c.loop-left.invariant.all;
  fits = fits_step c.loop-left.left (c.loop-left.left - 1) c.loop-left.places c.next_place-place.result.0
      (omega (arith, c.loop-left-test.true)) c.next_place-place.ensures.bit c.loop-left.invariant.fits;
  below = c.next_place-place.ensures.bound;
  few = omega (arith, c.loop-left.invariant.few);
}

-- none are left
pub returns-clause-value : goal.returns-clause-value
returns-clause-value c = places_end c.loop-left.left c.loop-left.places c.loop-left.rest (log_places 32 c.args.m)
    (omega (arith, c.loop-left-test.false)) c.loop-left.invariant.all
