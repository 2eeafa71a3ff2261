use Rattle.std.proofs.Common.{◌≡◌, ◌≤◌, ◌-◌, length, take}
use Rattle.page_output.specs.Code.Taken.{PassesOn}
use Rattle.page_output.proofs.tally.send_tallied.Given as goal

-- the sink and the tally have the first bytes of the piece, and there was no fault
abbrev pub invariant-loop-sent : goal.invariant-loop-sent
invariant-loop-sent g l = record {
  within : l.sent ≤ length l.piece;
  passed : PassesOn (g.O.Sink.written l.initial.out) (g.O.Sink.written l.out) l.initial.tally l.tally
      (take l.sent l.piece);
  no_fault : g.O.Sink.faults l.out ≡ g.O.Sink.faults l.initial.out;
}

abbrev pub decreases-loop-sent : goal.decreases-loop-sent
decreases-loop-sent g l = length l.piece - l.sent
