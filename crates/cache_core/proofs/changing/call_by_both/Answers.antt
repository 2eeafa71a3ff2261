use Rattle.cache_core.specs.Steps.{called_by_both}
use Rattle.cache_core.proofs.Mapped.{changed_next}
use Rattle.cache_core.proofs.changing.call_by_both.Goals as goal

pub loop-phase-preserved : goal.loop-phase-preserved
loop-phase-preserved c =
    changed_next (called_by_both c.args.res) _ _ _ _ _ c.loop-phase.invariant c.loop-phase-test.true
    c.called_by_both.ensures
