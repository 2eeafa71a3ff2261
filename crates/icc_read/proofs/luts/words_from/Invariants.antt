use Rattle.std.proofs.Common.{◌≡◌, ◌+◌, ◌*◌, map}
use Rattle.std.specs.List.{range_with_len}
use Rattle.icc_power.specs.CurveTag.{u16_at}
use Rattle.icc_read.proofs.luts.words_from.Given as goal

-- the first `k` values
abbrev pub invariant-loop-k : goal.invariant-loop-k
invariant-loop-k l = l.values.items ≡ map (λ k. u16_at l.tag (l.at + 2 * k)) (range_with_len 0 l.k)
