use Rattle.std.proofs.Common.{◌-◌, arith, length, drop}
use Rattle.std.proofs.lemmas.Grind.{common_steps}
use Rattle.ps_scan.proofs.Digits.{no_put, no_used}
use Rattle.ps_scan.proofs.scanner.fill_hex.Goals as goal

pub returns-then-put-into-clause-count : goal.returns-then-put-into-clause-count
returns-then-put-into-clause-count c =
    let none = no_put (length c.args.into.now - c.loop-i.put) c.loop-i.half (drop c.loop-i.i c.args.text.now)
    (omega arith) in
    grind (arith, common_steps, none, c.loop-i.invariant.bytes)

pub returns-then-put-into-clause-bytes : goal.returns-then-put-into-clause-bytes
returns-then-put-into-clause-bytes c =
    let none = no_put (length c.args.into.now - c.loop-i.put) c.loop-i.half (drop c.loop-i.i c.args.text.now)
    (omega arith) in
    grind (arith, common_steps, none, c.loop-i.invariant.bytes)

pub returns-then-put-into-clause-used : goal.returns-then-put-into-clause-used
returns-then-put-into-clause-used c =
    let none = no_used (length c.args.into.now - c.loop-i.put) c.loop-i.half (drop c.loop-i.i c.args.text.now)
    (omega arith) in
    omega (arith, none, c.loop-i.invariant.used)
