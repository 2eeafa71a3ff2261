use Rattle.std.proofs.Common.{take}
use Rattle.std.specs.List.{list_any}
use Rattle.page_model.specs.Code.Extent.{IsGrown}
use Rattle.page_model.specs.Reach.{starts_by, ends_from}
use Rattle.page_model.proofs.extent.with_shapes.Given as goal

-- the heights so far
abbrev pub invariant-loop-shape : goal.invariant-loop-shape
invariant-loop-shape l = IsGrown l.fn.so_far l.so_far (λ y. list_any (starts_by y) (take l.shape-index l.shapes))
    (λ y. list_any (ends_from y) (take l.shape-index l.shapes))
