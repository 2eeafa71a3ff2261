use Rattle.std.proofs.Common.{arith}
use Rattle.geo_stroke.proofs.PlaceLemmas.{ahead_on, cursor_on}
use Rattle.geo_stroke.proofs.place.advance.Goals as goal

pub loop-next-preserved : goal.loop-next-preserved
loop-next-preserved c =
    record {
      cursor = cursor_on c.args.first c.args.all.now c.loop-next.here c.in-Some.next.now c.loop-next.rest.now
          c.in-Some.tail.now c.loop-next.passed c.extent-passed.result
          c.in-Some.ensures.0 c.extent-passed.ensures.value c.loop-next.invariant.cursor;
      ahead = ahead_on c.args.first c.args.all.now c.loop-next.here c.in-Some.next.now c.loop-next.rest.now
          c.in-Some.tail.now c.loop-next.passed c.extent-passed.result c.args.distance
          c.in-Some.ensures.0 c.extent-passed.ensures.value c.in-Some.ensures.1 c.loop-next.invariant.ahead;
      passed = let h = c.in-Some.ensures.1 in let q = c.extent-passed.ensures.value in omega arith;
    }
