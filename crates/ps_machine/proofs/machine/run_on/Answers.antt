use Rattle.std.proofs.Common.{◌∙◌, ap}
use Rattle.ps_machine.specs.Meaning.{run, step_of}
use Rattle.ps_machine.proofs.Going.{a_step_goes}
use Rattle.ps_machine.proofs.machine.run_on.Goals as goal

pub loop-left-preserved : goal.loop-left-preserved
loop-left-preserved c =
    a_step_goes c.loop-left.left c.loop-left.body c.step.new.self (run c.args.left.now c.args.body.now)
    c.loop-left-test.true c.loop-left.invariant
    (c.in_ok-step.ensures ∙ ap (λ t. step_of t c.step.new.self c.step.new.end) c.in-Went.is)
