use Rattle.std.proofs.Common.{take}
use Rattle.geo_fill.specs.Code.Steps.{AreAdded}
use Rattle.geo_fill.specs.Walk.{winding_in}
use Rattle.geo_fill.proofs.walk.add_crossings.Given as goal

-- the crossings of the edges so far were added
abbrev pub invariant-loop-edge : goal.invariant-loop-edge
invariant-loop-edge l = AreAdded l.from l.to l.initial.crossings.items l.crossings.items
    (λ col. winding_in l.row col (take l.edge-index l.edges))
