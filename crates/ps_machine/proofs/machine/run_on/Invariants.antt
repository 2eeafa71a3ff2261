use Rattle.std.proofs.Common.{◌≡◌}
use Rattle.ps_machine.specs.Meaning.{run}
use Rattle.ps_machine.proofs.machine.run_on.Given as goal

-- what is left means what the whole means
abbrev pub invariant-loop-left : goal.invariant-loop-left
invariant-loop-left l = run l.left l.body ≡ run l.fn.left l.fn.body

abbrev pub decreases-loop-left : goal.decreases-loop-left
decreases-loop-left l = l.left
