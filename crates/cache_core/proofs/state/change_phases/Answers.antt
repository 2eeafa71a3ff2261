use Rattle.std.proofs.Common.{List, set, ap, ◌∙◌}
use Rattle.cache_core.specs.Steps.{phases_after, given_back}
use Rattle.cache_core.specs.declared.step.Phase.{Phase}
use Rattle.cache_core.specs.declared.step.Phase.TheVariants.{Holding}
use Rattle.cache_core.proofs.state.change_phases.Goals as goal

pub returns-in-Publish : goal.returns-in-Publish
unfolding phases_after
returns-in-Publish c =
    rw c.in-Publish.is (c.set_phase-in-Publish.ensures
    ∙ ap (λ (ps : List Phase). set ps c.in-Publish.seat (Holding c.in-Publish.res)) c.call_by_key.ensures)

pub returns-in-Release : goal.returns-in-Release
unfolding phases_after
returns-in-Release c =
    rw c.in-Release.is (c.give_back.ensures ∙ ap (given_back c.in-Release.res) c.set_phase-in-Release.ensures)
