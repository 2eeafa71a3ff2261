use Rattle.std.proofs.Common.{◌≡◌, length}
use Rattle.ps_machine.specs.Errors.{caught}
use Rattle.ps_machine.proofs.errors.catch.Given as goal

-- the error that is left goes where the first one goes
abbrev pub invariant-loop-name : goal.invariant-loop-name
invariant-loop-name l = caught l.name l.command l.flow l.stack ≡ caught l.fn.name l.fn.command l.fn.flow l.fn.stack

abbrev pub decreases-loop-name : goal.decreases-loop-name
decreases-loop-name l = length l.flow
