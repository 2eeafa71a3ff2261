use Rattle.std.proofs.Common.{◌-◌}
use Rattle.ps_store.proofs.Copied.{ArePut}
use Rattle.ps_store.proofs.copying.put_up.Given as goal

-- the last objects are put, so far
abbrev pub invariant-loop-i : goal.invariant-loop-i
invariant-loop-i l = ArePut l.initial.list l.initial.list l.start l.at (l.len - l.i) l.len l.list
