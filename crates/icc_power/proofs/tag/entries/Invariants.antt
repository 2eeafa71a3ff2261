use Rattle.std.proofs.Common.{◌≡◌, ◌+◌, ◌*◌, map}
use Rattle.std.specs.List.{range_with_len}
use Rattle.icc_power.specs.CurveTag.{u16_at}
use Rattle.icc_power.proofs.tag.entries.Given as goal

-- the first `k` entries
abbrev pub invariant-loop-k : goal.invariant-loop-k
invariant-loop-k l = l.entries.items ≡ map (λ k. u16_at l.tag (12 + 2 * k)) (range_with_len 0 l.k)
