use Rattle.std.proofs.Common.{◌≡◌, take}
use Rattle.std.specs.List.{flat_map}
use Rattle.page_output.specs.Sheet.{dots_in}
use Rattle.page_output.specs.Code.Taken.{PassesOn}
use Rattle.page_output.proofs.output.send_bands.Given as goal

-- the sink and the tally have the dots of the bands so far, and there was no fault
abbrev pub invariant-loop-band : goal.invariant-loop-band
invariant-loop-band g l = record {
  passed : PassesOn (g.O.Sink.written l.initial.out) (g.O.Sink.written l.out) l.initial.tally l.tally
      (flat_map dots_in (take l.band-index l.bands));
  no_fault : g.O.Sink.faults l.out ≡ g.O.Sink.faults l.initial.out;
}
