use Rattle.std.proofs.Common.{arith}
use Rattle.icc_read.proofs.Entries.{outside_first, outside_now, outside_next, outside_nowhere}
use Rattle.icc_read.proofs.faults.has_tag_outside.Goals as goal

-- all tags are left
pub loop-k-init : goal.loop-k-init
loop-k-init c = outside_first c.args.bytes.now

-- one less
pub loop-k-preserved : goal.loop-k-preserved
loop-k-preserved c = outside_next c.args.bytes.now c.size_field-size.result c.loop-k.k c.entry_at.result
    (omega (arith, c.loop-k-test.true, c.tag_count-k-end.ensures.value)) c.size_field-size.ensures c.entry_at.ensures
    c.if-is_outside.ensures c.loop-k.invariant

-- the first that lies outside
pub returns-then-is_outside : goal.returns-then-is_outside
returns-then-is_outside c = outside_now c.args.bytes.now c.size_field-size.result c.loop-k.k c.entry_at.result
    (omega (arith, c.loop-k-test.true, c.tag_count-k-end.ensures.value)) c.size_field-size.ensures c.entry_at.ensures
    c.if-is_outside.ensures c.loop-k.invariant

-- none does
pub returns : goal.returns
returns c = outside_nowhere c.args.bytes.now c.loop-k.k
    (omega (arith, c.loop-k-test.false, c.tag_count-k-end.ensures.value)) c.loop-k.invariant
