use Rattle.std.proofs.Common.{◌≡◌, ◌-◌, length, drop}
use Rattle.std.specs.Map.{keys_of}
use Rattle.ps_flow.specs.Code.BindSteps.{bound_all}
use Rattle.ps_flow.proofs.binding.bind_all.Given as goal

-- what is left to be bound leads to the same store
abbrev pub invariant-loop-p : goal.invariant-loop-p
invariant-loop-p l =
    bound_all l.dicts l.store (drop l.number (keys_of l.places)) ≡ bound_all l.dicts l.fn.store (keys_of l.places)

abbrev pub decreases-loop-p : goal.decreases-loop-p
decreases-loop-p l = length (keys_of l.places) - l.number
