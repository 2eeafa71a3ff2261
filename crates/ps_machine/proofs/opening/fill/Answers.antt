use Rattle.std.proofs.Common.{◌∙◌, ap, length, take_all, arith}
use Rattle.ps_store.specs.Operators.{operators_built}
use Rattle.ps_machine.specs.Code.Filling.{with_operators}
use Rattle.ps_machine.proofs.Filled.{filled, one_more}
use Rattle.ps_machine.proofs.opening.fill.Goals as goal

pub loop-op-preserved : goal.loop-op-preserved
loop-op-preserved c = one_more _ _ _ _ _ c.built-op-items.ensures.value
    (omega arith) c.loop-op.invariant c.in_ok-define_operator.ensures

pub returns : goal.returns
returns c = c.loop-op.invariant ∙ (ap with_operators
    (take_all c.loop-op.op-index operators_built (omega (arith, ap length c.built-op-items.ensures.value))) ∙ filled)
