use Rattle.std.proofs.Common.{◌≡◌, ◌-◌}
use Rattle.ps_flow.specs.Code.BindSteps.{bound_from}
use Rattle.ps_flow.proofs.binding.bind_part.Given as goal

-- what is left to be bound leads to the same store
abbrev pub invariant-loop-at : goal.invariant-loop-at
invariant-loop-at l = bound_from l.dicts l.store l.p l.at (l.p.len - l.at) ≡ bound_from l.dicts l.fn.store l.p 0 l.p.len
