use Rattle.ps_store.proofs.Copied.{ArePut}
use Rattle.ps_store.proofs.copying.put_down.Given as goal

-- the first objects are put, so far
abbrev pub invariant-loop-i : goal.invariant-loop-i
invariant-loop-i l = ArePut l.initial.list l.initial.list l.start l.at 0 l.i l.list
