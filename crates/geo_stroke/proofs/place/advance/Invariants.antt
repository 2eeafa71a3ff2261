use Rattle.std.proofs.Common.{◌≤◌, length}
use Rattle.geo_stroke.specs.Code.Cursor.{IsCursor, IsAhead}
use Rattle.geo_stroke.proofs.place.advance.Given as goal

-- the way so far
abbrev pub invariant-loop-next : goal.invariant-loop-next
invariant-loop-next l = record {
  cursor : IsCursor l.fn.first l.all l.here l.rest l.passed;
  ahead : IsAhead l.fn.first l.all l.here l.rest l.passed l.distance;
  passed : l.passed ≤ l.distance;
}

abbrev pub decreases-loop-next : goal.decreases-loop-next
decreases-loop-next l = length l.rest
