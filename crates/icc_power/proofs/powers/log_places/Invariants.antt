use Rattle.std.proofs.Common.{◌≡◌, ◌≤◌, ◌<◌, ◌^◌, ◌*◌, ◌+◌}
use Rattle.icc_power.specs.Power.{log_places}
use Rattle.icc_power.proofs.powers.log_places.Given as goal

-- the places found, and those that are left, are all of them
abbrev pub invariant-loop-left : goal.invariant-loop-left
invariant-loop-left l = record {
  all : l.places * 2 ^ l.left + log_places l.left l.rest ≡ log_places 32 l.m;
  fits : l.places * 2 ^ l.left + 2 ^ l.left ≤ 2 ^ 32;
  below : l.rest < 2 ^ 33;
  few : l.left ≤ 32;
}

abbrev pub decreases-loop-left : goal.decreases-loop-left
decreases-loop-left l = l.left
