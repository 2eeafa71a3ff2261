use Rattle.std.proofs.Common.{◌≡◌, ◌+◌, drop, false}
use Rattle.ps_scan.specs.Reading.{blank_len}
use Rattle.ps_scan.proofs.characters.blank_front.Given as goal

abbrev pub invariant-loop-i : goal.invariant-loop-i
invariant-loop-i l = blank_len false l.text ≡ l.i + blank_len l.comment (drop l.i l.text)
