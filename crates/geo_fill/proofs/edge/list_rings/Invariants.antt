use Rattle.std.proofs.Common.{map, take}
use Rattle.page_model.specs.Inside.{centre, total, ring_winding}
use Rattle.geo_fill.specs.Code.WalkSteps.{AreListed}
use Rattle.geo_fill.proofs.edge.list_rings.Given as goal

-- the edges of the rings so far were listed
abbrev pub invariant-loop-ring : goal.invariant-loop-ring
invariant-loop-ring l = AreListed l.first l.end l.initial.edges.items l.edges.items
    (λ row col. total (map (ring_winding (centre col) (centre row)) (take l.ring-index l.rings)))
