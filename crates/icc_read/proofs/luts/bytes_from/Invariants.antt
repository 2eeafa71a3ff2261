use Rattle.std.proofs.Common.{◌≡◌, ◌+◌, map, slice_index}
use Rattle.std.specs.List.{range_with_len}
use Rattle.icc_read.proofs.luts.bytes_from.Given as goal

-- the first `k` values
abbrev pub invariant-loop-k : goal.invariant-loop-k
invariant-loop-k l = l.values.items ≡ map (λ k. slice_index l.tag (l.at + k)) (range_with_len 0 l.k)
