use Rattle.std.proofs.Common.{◌≡◌, ◌+◌, length}
use Rattle.geo_stroke.specs.Dash.{dashes_by}
use Rattle.geo_stroke.proofs.DashLemmas.{later}
use Rattle.geo_stroke.proofs.dash.room_behind.Given as goal

-- the room that was taken, and the dashes of the cycles that are left, are all dashes
abbrev pub invariant-loop-k : goal.invariant-loop-k
invariant-loop-k l =
    l.left + length (dashes_by l.line.phase l.line.total l.dashes)
    ≡ l.room + length (later l.line.phase l.line.total l.dashes l.k)
