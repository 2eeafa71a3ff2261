use Rattle.std.proofs.Common.{sym, rules}
use Rattle.geo_fill.proofs.walk.half_width.Goals as goal
use Rattle.geo_fill.proofs.Discs.{too_far, half_is}

pub returns-then-is_below : goal.returns-then-is_below
returns-then-is_below c = too_far c.args.disc c.args.row c.square-most.result c.square-used.result (search rules)
    (search rules) (sym c.if-is_below.ensures)

pub returns : goal.returns
returns c = half_is c.args.disc c.args.row c.square-most.result c.square-used.result c.size.result c.isqrt.result
    (search rules) (search rules) (sym c.if-is_below.ensures)
    (search rules) c.isqrt.ensures.greatest c.isqrt.type_inv c.of_size.result (search rules)
