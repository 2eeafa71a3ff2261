use Rattle.std.proofs.Common.{take}
use Rattle.std.specs.List.{list_any}
use Rattle.std.specs.Prelude.{int_le}
use Rattle.press_fault.specs.Plane.{PointValue}
use Rattle.page_model.specs.Code.Extent.{IsGrown}
use Rattle.list_player.proofs.reach.with_rings.Given as goal

-- the heights so far
abbrev pub invariant-loop-ring : goal.invariant-loop-ring
invariant-loop-ring l = IsGrown l.fn.so_far l.so_far
    (λ y. list_any (list_any (λ (p : PointValue). int_le p.y y)) (take l.ring-index l.rings))
    (λ y. list_any (list_any (λ (p : PointValue). int_le y p.y)) (take l.ring-index l.rings))
