use Rattle.std.proofs.Common.{◌<◌, subst, sym, arith}
use Rattle.geo_fill.specs.Spans.{SpanValue}
use Rattle.geo_clip.proofs.Meeting.{next_is}
use Rattle.geo_clip.proofs.row.next_span.Goals as goal

pub returns : goal.returns
returns c = next_is c.args.spans.now c.place_behind-place.result c.args.col c.index-spans-place.result
    (omega arith) c.index-spans-place.is
    (subst (λ (u : SpanValue). c.args.col < u.end) (sym c.index-spans-place.is)
    (c.place_behind-place.ensures.next c.index-spans-place.result (omega arith)))
    c.place_behind-place.ensures.passed
