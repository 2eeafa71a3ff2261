use Rattle.std.proofs.Common.{◌≡◌, take}
use Rattle.ps_store.specs.Operators.{operators_built}
use Rattle.ps_machine.specs.Code.Filling.{with_operators}
use Rattle.ps_machine.proofs.opening.fill.Given as goal

-- the operators so far are defined
abbrev pub invariant-loop-op : goal.invariant-loop-op
invariant-loop-op l = l.store ≡ with_operators (take l.op-index operators_built)
