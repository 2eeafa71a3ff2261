use Rattle.std.proofs.Common.{◌≡◌, ◌-◌, ℕ, List, length, take, drop, not}
use Rattle.std.specs.Prelude.{count_by}
use Rattle.ps_store.specs.declared.obj.Obj.{Obj}
use Rattle.ps_store.specs.Code.Turning.{IsSettled, ArePartlyTurned}
use Rattle.ps_store.proofs.Cycles.{IsInCycle}
use Rattle.ps_store.proofs.turning.settle_cycle.Given as goal

-- the walk is on the cycle of the start, each object that it passed stands in its new place, and the front stays
abbrev pub invariant-loop-next : goal.invariant-loop-next
invariant-loop-next l =
    IsInCycle (length l.initial.items - l.from) l.k l.start l.hole l.next l.settled
    × ((i : ℕ) → IsSettled l.initial.settled i → IsSettled l.settled i)
    × ((before : List Obj) →
    ArePartlyTurned (length l.initial.items - l.from) l.k before l.initial.settled (drop l.from l.initial.items) →
    ArePartlyTurned (length l.initial.items - l.from) l.k before l.settled (drop l.from l.items))
    × (take l.from l.items ≡ take l.from l.initial.items)

abbrev pub decreases-loop-next : goal.decreases-loop-next
decreases-loop-next l = count_by not l.settled
