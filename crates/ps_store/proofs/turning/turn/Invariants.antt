use Rattle.std.proofs.Common.{◌≡◌, ◌-◌, ℕ, ◌<◌, length, take, drop}
use Rattle.ps_store.specs.Code.Turning.{IsSettled, AreClosed, ArePartlyTurned}
use Rattle.ps_store.proofs.turning.turn.Given as goal

-- the places before the start are settled, and the front stays
abbrev pub invariant-loop-start : goal.invariant-loop-start
invariant-loop-start l =
    AreClosed (length l.initial.items - l.from) l.k l.settled
    × ((i : ℕ) → i < l.start → IsSettled l.settled i)
    × ArePartlyTurned (length l.initial.items - l.from) l.k (drop l.from l.initial.items) l.settled
    (drop l.from l.items)
    × (take l.from l.items ≡ take l.from l.initial.items)
