use Rattle.std.proofs.Common.{length, ◌-◌, ◌≤◌, ◌<◌, get_or}
use Rattle.geo_fill.specs.Spans.{SpanValue}
use Rattle.geo_clip.specs.Code.Meeting.{ArePassed}
use Rattle.geo_clip.proofs.row.place_behind.Given as goal

-- the spans before low are passed, and the one at high ends behind the column
abbrev pub invariant-loop-low : goal.invariant-loop-low
invariant-loop-low l = record {
  order : l.low ≤ l.high;
  inside : l.high ≤ length l.spans;
  passed : ArePassed l.col l.low l.spans;
  next : (s : SpanValue) → l.high < length l.spans → l.col < (get_or l.spans l.high s).end;
}

abbrev pub decreases-loop-low : goal.decreases-loop-low
decreases-loop-low l = l.high - l.low
