use Rattle.std.proofs.Common.{◌-◌, ◌≤◌, ◌<◌, length, ℕ}
use Rattle.icc_tables.specs.Curves.{table_value}
use Rattle.icc_tables.proofs.curve.by_halving.Given as goal

-- no code below low reaches the value, and high does, unless it is the last
abbrev pub invariant-loop-low : goal.invariant-loop-low
invariant-loop-low l = record {
  apart : l.low ≤ l.high;
  last : l.high ≤ 65535;
  below : (s : ℕ) → s < l.low → table_value l.entries 0 (length l.entries) s < l.v;
  high : l.high < 65535 → l.v ≤ table_value l.entries 0 (length l.entries) l.high;
}

abbrev pub decreases-loop-low : goal.decreases-loop-low
decreases-loop-low l = l.high - l.low
