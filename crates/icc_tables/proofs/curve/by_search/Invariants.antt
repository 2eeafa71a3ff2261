use Rattle.std.proofs.Common.{◌<◌, length, ℕ}
use Rattle.icc_tables.specs.Curves.{table_value}
use Rattle.icc_tables.proofs.curve.by_search.Given as goal

-- no code so far reaches the value
abbrev pub invariant-loop-code : goal.invariant-loop-code
invariant-loop-code l = (s : ℕ) → s < l.code → table_value l.entries 0 (length l.entries) s < l.v
