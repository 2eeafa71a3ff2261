use Rattle.std.proofs.Common.{◌≤◌}
use Rattle.std.specs.Io.KnownBytes.{Keeps}
use Rattle.press_ports.proofs.streams.write_front.Given as goal

-- a write that was interrupted wrote nothing, and each was counted
abbrev pub invariant-loop-turn : goal.invariant-loop-turn
invariant-loop-turn g l = Keeps (g.W.Write.contents l.initial.writer.writer) (g.W.Write.contents l.writer.writer) ×
    (l.turn ≤ l.writer.interruptions)
