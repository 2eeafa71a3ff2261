use Rattle.std.proofs.Common.{◌≡◌, ◌≤◌, ◌^◌, min, take}
use Rattle.ps_scan.specs.Radix.{radix_value}
use Rattle.ps_scan.proofs.radix.capped_radix_value.Given as goal

-- the number that the digits so far write
abbrev pub invariant-loop-digit : goal.invariant-loop-digit
invariant-loop-digit l = record {
  so_far : l.value ≡ min (2 ^ 32) (radix_value l.base (take l.digit-index l.digits));
  bound : l.value ≤ 2 ^ 32;
}
