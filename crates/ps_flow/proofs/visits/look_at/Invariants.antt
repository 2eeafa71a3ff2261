use Rattle.std.proofs.Common.{◌≡◌, ◌-◌, ℕ, true}
use Rattle.ps_flow.specs.Binding.{has}
use Rattle.ps_flow.specs.Code.Places.{AreAdded, AreSeen, is_seen}
use Rattle.ps_flow.proofs.visits.look_at.Given as goal

-- the places before this one were looked at, and the procedures that stand there are reached
abbrev pub invariant-loop-at : goal.invariant-loop-at
invariant-loop-at l = record {
  same : l.p ≡ l.fn.p;
  seen : AreSeen l.store l.visits l.places l.p l.at;
  visited : has l.visits l.p ≡ true;
  kept : (id k : ℕ) → is_seen l.fn.places id k ≡ true → is_seen l.places id k ≡ true;
  added : AreAdded l.store l.p l.fn.visits l.visits;
}

abbrev pub decreases-loop-at : goal.decreases-loop-at
decreases-loop-at l = l.p.len - l.at
