use Rattle.std.proofs.Common.{◌≡◌, ◌≤◌, ◌<◌, ◌^◌, ◌+◌, drop}
use Rattle.icc_power.specs.Power.{two_roots, raised}
use Rattle.icc_power.proofs.powers.raised.Given as goal

-- the number so far, by the roots that are left, is what it is by all of them
abbrev pub invariant-loop-k : goal.invariant-loop-k
invariant-loop-k l = record {
  all : raised (drop l.k two_roots) l.rest l.r ≡ raised two_roots l.fraction (2 ^ 32);
  below : l.rest < 2 ^ 32;
  bound : l.r ≤ 2 ^ (32 + l.k);
  few : l.k ≤ 32;
}
