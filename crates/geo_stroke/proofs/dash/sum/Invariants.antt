use Rattle.std.proofs.Common.{◌≡◌, ◌*◌, ◌^◌, ◌≤◌, take}
use Rattle.std.specs.List.{sum}
use Rattle.geo_stroke.proofs.dash.sum.Given as goal

-- the sum so far
abbrev pub invariant-loop-dash : goal.invariant-loop-dash
invariant-loop-dash l = record {
  value : l.all ≡ sum (take l.dash-index l.dashes);
  bound : l.all ≤ l.dash-index * 2 ^ 64;
}
