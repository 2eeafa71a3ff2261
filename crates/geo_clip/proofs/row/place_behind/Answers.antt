use Rattle.std.proofs.Common.{rules, subst, arith, ◌+◌, ◌-◌, ◌/◌, ◌≤◌}
use Rattle.geo_fill.specs.Spans.{SpanValue}
use Rattle.geo_clip.proofs.Meeting.{passed}
use Rattle.geo_clip.proofs.row.place_behind.Goals as goal

pub loop-low-preserved-then-span-col : goal.loop-low-preserved-then-span-col
loop-low-preserved-then-span-col c =
    let middle = c.loop-low.low + (c.loop-low.high - c.loop-low.low) / 2 in
    let less : c.index-spans-middle.result.end ≤ c.args.col = search rules in
    let ends = subst (λ (u : SpanValue). u.end ≤ c.args.col) c.index-spans-middle.is less in
    record {
      order = omega (arith, c.loop-low-test.true);
      inside = c.loop-low.invariant.inside;
      passed = passed c.args.spans.now 0 middle c.args.col c.index-spans-middle.result c.requires
          (omega (arith, c.loop-low-test.true, c.loop-low.invariant.inside)) ends;
      next = c.loop-low.invariant.next;
    }
