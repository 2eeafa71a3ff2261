use Rattle.std.proofs.Common.{◌+◌, ◌-◌, length}
use Rattle.ps_flow.specs.Binding.{procedures_with}
use Rattle.ps_flow.specs.Code.Visits.{unvisited}
use Rattle.ps_flow.proofs.GoingLemmas.{IsGoing}
use Rattle.ps_flow.proofs.visits.places_reached.Given as goal

-- all of them are reached, and all places of those before the number were looked at
abbrev pub invariant-loop-q : goal.invariant-loop-q
invariant-loop-q l = IsGoing l.store l.fn.p l.visits l.places l.number

-- those that weren't reached yet, and those whose places weren't looked at
abbrev pub decreases-loop-q : goal.decreases-loop-q
decreases-loop-q l = unvisited l.visits (procedures_with l.fn.p l.store) + length l.visits - l.number
