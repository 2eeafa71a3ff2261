use Rattle.std.proofs.Common.{◌≡◌, map}
use Rattle.std.specs.List.{range_with_len}
use Rattle.icc_power.specs.Parametric.{parametric_at}
use Rattle.icc_power.proofs.parametric.curve_of.Given as goal

-- the values of the first `v`
abbrev pub invariant-loop-v : goal.invariant-loop-v
invariant-loop-v l = l.entries.items ≡ map (parametric_at l.p) (range_with_len 0 l.v)
