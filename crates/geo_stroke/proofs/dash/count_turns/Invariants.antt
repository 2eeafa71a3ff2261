use Rattle.std.proofs.Common.{◌≡◌, ◌+◌, ◌*◌, ◌^◌, ◌≤◌, drop, length}
use Rattle.geo_stroke.specs.Dash.{dashes_from}
use Rattle.geo_stroke.proofs.dash.count_turns.Given as goal

-- the dashes so far, and those of the elements that are left, are all of them
abbrev pub invariant-loop-size : goal.invariant-loop-size
invariant-loop-size l = record {
  dashes :
      length (dashes_from l.line.phase l.line.total l.is_dash l.at l.dashes)
      ≡ l.count + length (dashes_from l.line.phase l.line.total l.turn l.here (drop l.size-index l.dashes));
  bound : l.here ≤ l.at + l.size-index * 2 ^ 64;
  few : l.count ≤ l.size-index;
}
