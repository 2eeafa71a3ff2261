use Rattle.std.proofs.Common.{◌∙◌, rules, arith}
use Rattle.geo_clip.specs.Mask.{is_open}
use Rattle.list_player.proofs.Painting.{ink_run_more}
use Rattle.list_player.proofs.row.DotRow.put_open_span.Goals as goal

pub loop-run-preserved : goal.loop-run-preserved
loop-run-preserved g c = record {
  painted = ink_run_more _ _ (is_open c.args.mask.now.regions c.args.row) c.args.first c.loop-run.from
      c.args.end c.ends_of-begins.result.0 c.ends_of-begins.result.1 c.in-Some.run' c.args.self.now c.loop-run.self
      c.put_span.new.self c.loop-run.invariant.order c.in-Some.ensures c.ends_of-begins.ensures.first
      c.ends_of-begins.ensures.end c.ends_of-begins.ensures.some c.loop-run.invariant.same
      c.loop-run.invariant.painted c.in_ok-put_span.ensures.ok;
  order = let s = c.ends_of-begins.ensures in let f = c.in-Some.ensures.first in
      omega (arith, s.first, s.some, f, c.loop-run.invariant.order);
  within = let s = c.ends_of-begins.ensures in let f = c.in-Some.ensures.end in omega (arith, s.end, f);
  same = c.put_span.ensures.same ∙ c.loop-run.invariant.same;
}
