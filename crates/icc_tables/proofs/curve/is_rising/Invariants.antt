use Rattle.std.proofs.Common.{◌≤◌, ◌<◌, ◌+◌, ℕ, slice_index}
use Rattle.icc_tables.proofs.curve.is_rising.Given as goal

-- no entry up to here is below the one before it
abbrev pub invariant-loop-k : goal.invariant-loop-k
invariant-loop-k l = (j : ℕ) → j + 1 < l.k → slice_index l.values j ≤ slice_index l.values (j + 1)
