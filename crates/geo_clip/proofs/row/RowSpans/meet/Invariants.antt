use Rattle.std.proofs.Common.{length, drop, ◌+◌, ◌-◌}
use Rattle.geo_clip.specs.Code.Meeting.{AreMetSoFar}
use Rattle.geo_clip.proofs.row.RowSpans.meet.Given as goal

-- what the lists share was added, but for what their rests share
abbrev pub invariant-loop-i : goal.invariant-loop-i
invariant-loop-i l = AreMetSoFar (drop l.i l.one) (drop l.j l.other) l.one l.other l.self

abbrev pub decreases-loop-i : goal.decreases-loop-i
decreases-loop-i l = (length l.one - l.i) + (length l.other - l.j)
