use Rattle.std.proofs.Common.{rules}
use Rattle.geo_fill.proofs.walk.add_disc.Goals as goal
use Rattle.geo_fill.proofs.Discs.{span_is, no_span_is}

pub returns-in_ok-push : goal.returns-in_ok-push
returns-in_ok-push c = rw (c.in_ok-push.ensures.ok, c.requires.empty)
    (span_is c.args.disc c.args.row c.args.from c.args.to c.col_from-first.result c.col_from-end.result c.in-Some.half
    c.sub.result c.add-2.result c.in-Some.ensures (search rules)
    (search rules) c.col_from-first.ensures.first c.col_from-end.ensures.end c.col_from-first.ensures.places
    c.col_from-end.ensures.places)

pub returns-else-first-end : goal.returns-else-first-end
returns-else-first-end c = rw c.requires.empty
    (no_span_is c.args.disc c.args.row c.args.from c.args.to c.col_from-first.result c.col_from-end.result
    c.in-Some.half c.sub.result c.add-2.result c.in-Some.ensures (search rules)
    (search rules) c.if-first-end.false c.col_from-first.ensures.places c.col_from-end.ensures.places)
