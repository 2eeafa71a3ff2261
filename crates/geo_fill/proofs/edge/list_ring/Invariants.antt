use Rattle.std.proofs.Common.{map, take}
use Rattle.page_model.specs.Inside.{centre, total, turn_of, edges}
use Rattle.geo_fill.specs.Code.WalkSteps.{AreListed}
use Rattle.geo_fill.proofs.edge.list_ring.Given as goal

-- the edges so far were listed
abbrev pub invariant-loop-i : goal.invariant-loop-i
invariant-loop-i l = AreListed l.first l.end l.initial.edges.items l.edges.items
    (λ row col. total (map (turn_of (centre col) (centre row)) (take l.i (edges l.points))))
