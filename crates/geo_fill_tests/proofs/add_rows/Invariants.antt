use Rattle.std.proofs.Common.{◌≡◌, ◌+◌}
use Rattle.geo_fill_tests.proofs.add_rows.Given as goal

-- as many rows are left as the walk still has
abbrev pub invariant-loop-row : goal.invariant-loop-row
invariant-loop-row l = l.walk.left + l.row ≡ l.fn.end
