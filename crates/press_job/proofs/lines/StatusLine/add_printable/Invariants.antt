use Rattle.std.proofs.Common.{◌≡◌, ◌+◌, ◌++◌, map, take, length}
use Rattle.press_job.specs.Lines.{printable}
use Rattle.press_job.proofs.lines.StatusLine.add_printable.Given as goal

-- the bytes passed so far, as they print, behind what was there
abbrev pub invariant-loop-byte : goal.invariant-loop-byte
invariant-loop-byte l = record {
  text : l.self-inside.bytes.items ≡ l.initial.self-inside.bytes.items ++ map printable (take l.byte-index l.command);
  len : length l.self-inside.bytes.items ≡ length l.initial.self-inside.bytes.items + l.byte-index;
}
