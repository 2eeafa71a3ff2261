use Rattle.std.proofs.Common.{◌≡◌}
use Rattle.std.specs.Prelude.{replicate}
use Rattle.ps_store.specs.declared.obj.Obj.TheVariants.{Null}
use Rattle.ps_store.proofs.composite.Elements.nulls.Given as goal

-- the nulls so far
abbrev pub invariant-loop-at : goal.invariant-loop-at
invariant-loop-at l = l.items.items ≡ replicate l.at Null
