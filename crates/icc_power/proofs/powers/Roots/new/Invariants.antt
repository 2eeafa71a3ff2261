use Rattle.std.proofs.Common.{◌≡◌, ◌≤◌, ◌^◌, ◌-◌, ◌++◌, length, take}
use Rattle.icc_power.specs.Power.{roots_of, two_roots}
use Rattle.icc_power.proofs.powers.Roots.new.Given as goal

-- the roots found, and those that are left, are all of them
abbrev pub invariant-loop-k : goal.invariant-loop-k
invariant-loop-k l = record {
  all : take l.k l.roots ++ roots_of (32 - l.k) l.s ≡ two_roots;
  small : l.s ≤ 2 ^ 33;
  long : length l.roots ≡ 32;
}
