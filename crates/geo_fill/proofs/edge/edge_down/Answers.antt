use Rattle.std.proofs.Common.{sym, ◌-◌, arith}
use Rattle.page_model.specs.Inside.{centre}
use Rattle.geo_fill.proofs.Making.{last_within, line_turns, line_misses}
use Rattle.geo_fill.proofs.edge.edge_down.Goals as goal

pub edge_at-requires-clause-ends : goal.edge_at-requires-clause-ends
edge_at-requires-clause-ends c = last_within c.place_from-stop.result c.args.high.y
    (centre (c.place_from-stop.result - 1)) (omega arith)
    (rw c.wide_y-2.ensures.value at (c.place_from-stop.ensures.places (c.place_from-stop.result - 1) (omega arith)
    (omega (arith, c.place_from-stop.ensures.end))))

pub returns-clause-turns : goal.returns-clause-turns
returns-clause-turns c = λ row col late less. line_turns c.args.low c.args.high c.args.rises c.place_from-begin.result
    c.place_from-stop.result row col _ (omega arith)
    (rw c.wide_y.ensures.value at (c.place_from-begin.ensures.places row late less))
    (rw c.wide_y-2.ensures.value at (c.place_from-stop.ensures.places row late less))
    c.edge_at.ensures

pub returns-then-misses : goal.returns-then-misses
returns-then-misses c = record {
  listed = tt;
  turns =
      λ row col late less. line_misses c.args.low c.args.high c.args.rises c.args.first c.args.end row col
      (sym c.if-misses.ensures) late less;
}
