use Rattle.std.proofs.Common.{◌≡◌, ◌+◌, ◌-◌, ◌++◌, ◌<◌, ◌≤◌, drop, take, length}
use Rattle.std.specs.Prelude.{None, IfSome}
use Rattle.ps_scan.specs.Code.Filling.{hex_put, hex_used}
use Rattle.ps_scan.proofs.scanner.fill_hex.Given as goal

abbrev pub invariant-loop-i : goal.invariant-loop-i
invariant-loop-i l = record {
  bytes : hex_put (length l.initial.into) None l.text ≡ take l.put l.into
      ++ hex_put (length l.initial.into - l.put) l.half (drop l.i l.text);
  behind : drop l.put l.into ≡ drop l.put l.initial.into;
  used : hex_used (length l.initial.into) None l.text ≡ l.i
      + hex_used (length l.initial.into - l.put) l.half (drop l.i l.text);
  room : l.put ≤ length l.initial.into;
  small : IfSome l.half (λ high. high < 16);
}
