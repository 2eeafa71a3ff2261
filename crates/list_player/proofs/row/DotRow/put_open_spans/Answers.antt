use Rattle.std.proofs.Common.{◌∙◌, rules, arith}
use Rattle.geo_clip.specs.Mask.{is_open}
use Rattle.list_player.proofs.Painting.{ink_open_span_more, still_within, span_within}
use Rattle.list_player.proofs.row.DotRow.put_open_spans.Goals as goal

pub put_open_span-requires-clause-range : goal.put_open_span-requires-clause-range
put_open_span-requires-clause-range g c = span_within c.args.spans.now c.loop-span.span-index c.args.mask.now.width
    c.span-item.result c.ends_of-first.result.0
    c.ends_of-first.result.1 (omega arith) c.span-item.is c.ends_of-first.ensures.first c.ends_of-first.ensures.end
    c.ends_of-first.ensures.some c.requires.range

pub put_open_span-requires-clause-within : goal.put_open_span-requires-clause-within
put_open_span-requires-clause-within g c = still_within _ c.args.spans.now c.loop-span.span-index c.span-item.result
    c.args.self.now c.loop-span.self
    c.ends_of-first.result.0
    c.ends_of-first.result.1 (omega arith) c.span-item.is c.ends_of-first.ensures.first c.ends_of-first.ensures.end
    c.ends_of-first.ensures.some
    c.requires.within c.loop-span.invariant.painted

pub loop-span-preserved : goal.loop-span-preserved
loop-span-preserved g c = record {
  painted = ink_open_span_more _ _ (is_open c.args.mask.now.regions c.args.row) c.args.spans.now
      c.loop-span.span-index c.span-item.result c.ends_of-first.result.0 c.ends_of-first.result.1 c.args.self.now
      c.loop-span.self c.put_open_span.new.self (omega arith)
      c.span-item.is c.ends_of-first.ensures.first c.ends_of-first.ensures.end c.loop-span.invariant.same
      c.loop-span.invariant.painted
      c.in_ok-put_open_span.ensures.ok;
  same = c.put_open_span.ensures.same ∙ c.loop-span.invariant.same;
}
