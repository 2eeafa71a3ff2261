use Rattle.std.proofs.Common.{◌∙◌, ap, ◌*◌, ◌^◌, arith}
use Rattle.std.specs.Prelude.{pos, ◌*ℤ◌, unsigned_abs}
use Rattle.geo_fill.proofs.Making.{divided_by, quotient_near, slope_near, edge_is_placed, place_here}
use Rattle.geo_fill.proofs.edge.edge_of.Goals as goal

pub negated-requires-2 : goal.negated-requires-2
negated-requires-2 c =
    let d = divided_by c.args.place c.args.run c.args.rise c.times-span.result c.negated.result _ _ _ _ c.requires.down
    c.times-span.ensures.value c.negated.ensures.value c.divide_floor-across.ensures.division.whole
    c.divide_floor-across.ensures.division.low c.divide_floor-across.ensures.division.high
    c.divide_floor-along.ensures.division.whole c.divide_floor-along.ensures.division.low
    c.divide_floor-along.ensures.division.high in
    let n = quotient_near c.args.place c.args.run (unsigned_abs c.args.rise) _ _ _ _ d
    (place_here c.args.place (c.args.run *ℤ pos 256) c.args.row (unsigned_abs c.args.rise * 2 ^ 46)
    (c.requires.near c.args.row (omega arith) c.requires.order)) in
    omega (arith, n)

pub of-requires : goal.of-requires
of-requires c =
    let d = divided_by c.args.place c.args.run c.args.rise c.times-span.result c.negated.result _ _ _ _ c.requires.down
    c.times-span.ensures.value c.negated.ensures.value c.divide_floor-across.ensures.division.whole
    c.divide_floor-across.ensures.division.low c.divide_floor-across.ensures.division.high
    c.divide_floor-along.ensures.division.whole c.divide_floor-along.ensures.division.low
    c.divide_floor-along.ensures.division.high in
    let n = quotient_near c.args.place c.args.run (unsigned_abs c.args.rise) _ _ _ _ d
    (place_here c.args.place (c.args.run *ℤ pos 256) c.args.row (unsigned_abs c.args.rise * 2 ^ 46)
    (c.requires.near c.args.row (omega arith) c.requires.order)) in
    omega (arith, n, c.negated-2.ensures.bound)

pub of-requires-2 : goal.of-requires-2
of-requires-2 c =
    let d = divided_by c.args.place c.args.run c.args.rise c.times-span.result c.negated.result _ _ _ _ c.requires.down
    c.times-span.ensures.value c.negated.ensures.value c.divide_floor-across.ensures.division.whole
    c.divide_floor-across.ensures.division.low c.divide_floor-across.ensures.division.high
    c.divide_floor-along.ensures.division.whole c.divide_floor-along.ensures.division.low
    c.divide_floor-along.ensures.division.high in
    let n = slope_near c.args.place c.args.run (unsigned_abs c.args.rise) _ _ _ _ d in
    omega (arith, n, c.requires.run)

pub returns : goal.returns
returns c =
    let d = divided_by c.args.place c.args.run c.args.rise c.times-span.result c.negated.result _ _ _ _ c.requires.down
    c.times-span.ensures.value c.negated.ensures.value c.divide_floor-across.ensures.division.whole
    c.divide_floor-across.ensures.division.low c.divide_floor-across.ensures.division.high
    c.divide_floor-along.ensures.division.whole c.divide_floor-along.ensures.division.low
    c.divide_floor-along.ensures.division.high in
    edge_is_placed c.args.place c.args.run c.args.rise _ _ _ _ _ _ _ _ c.args.row c.args.last _ c.args.rises
    c.requires.down d (c.of.ensures ∙ c.negated-2.ensures.value) c.of-2.ensures c.size.ensures
    (c.size-2.ensures ∙ ap (λ z. unsigned_abs z) c.times.ensures.value)
    (c.size-3.ensures ∙ c.times-span.ensures.bound) c.requires.rise c.requires.run c.requires.order
    (omega (arith, c.ranges.last.fits)) c.requires.near
