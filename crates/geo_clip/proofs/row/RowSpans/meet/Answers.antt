use Rattle.std.proofs.Common.{rules, ◌≤◌}
use Rattle.geo_clip.proofs.Meeting.{ends_early, next_left, next_right}
use Rattle.geo_clip.proofs.row.RowSpans.meet.Goals as goal

pub add_shared-requires : goal.add_shared-requires
add_shared-requires c =
    ends_early c.loop-i.i c.loop-i.j c.index-one-i.result c.index-other-j.result c.args.one.now c.args.other.now
    c.loop-i.self c.loop-i-test.true c.if-j-other.true c.index-one-i.is c.index-other-j.is c.loop-i.invariant

pub loop-i-preserved-then-s-t : goal.loop-i-preserved-then-s-t
loop-i-preserved-then-s-t c =
    let le : c.index-one-i.result.end ≤ c.index-other-j.result.end = search rules in
    next_left c.loop-i.i c.loop-i.j c.index-one-i.result c.index-other-j.result c.args.one.now c.args.other.now
    c.loop-i.self _ c.loop-i-test.true c.if-j-other.true c.index-one-i.is c.index-other-j.is c.loop-i.invariant
    c.in_ok-add_shared.ensures le

pub loop-i-preserved : goal.loop-i-preserved
loop-i-preserved c =
    let le : c.index-other-j.result.end ≤ c.index-one-i.result.end = search rules in
    next_right c.loop-i.i c.loop-i.j c.index-one-i.result c.index-other-j.result c.args.one.now c.args.other.now
    c.loop-i.self _ c.loop-i-test.true c.if-j-other.true c.index-one-i.is c.index-other-j.is c.loop-i.invariant
    c.in_ok-add_shared.ensures le
