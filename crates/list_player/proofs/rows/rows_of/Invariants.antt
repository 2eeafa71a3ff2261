use Rattle.std.proofs.Common.{◌≡◌, replicate}
use Rattle.list_player.proofs.rows.rows_of.Given as goal

-- so many rows
abbrev pub invariant-loop-row : goal.invariant-loop-row
invariant-loop-row g l = l.rows.items ≡ replicate l._row (replicate l.width l.dot)
