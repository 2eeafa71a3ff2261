use Rattle.std.proofs.Common.{◌≡◌, ◌∷◌, ◌+◌, ◌*◌, ◌^◌, ◌≤◌, drop}
use Rattle.geo_stroke.specs.Dash.{total_of}
use Rattle.geo_stroke.proofs.place.total.Given as goal

-- the length so far, and that of the segments that are left, is the whole
abbrev pub invariant-loop-segment : goal.invariant-loop-segment
invariant-loop-segment l = record {
  value : total_of (l.fn.first ∷ l.rest) ≡ l.total + total_of (drop l.segment-index l.rest);
  bound : l.total ≤ (l.segment-index + 1) * 2 ^ 41;
}
