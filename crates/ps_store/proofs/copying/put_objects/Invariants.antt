use Rattle.ps_store.proofs.Copied.{ArePut}
use Rattle.ps_store.proofs.copying.put_objects.Given as goal

-- the objects so far are put
abbrev pub invariant-loop-i : goal.invariant-loop-i
invariant-loop-i l = ArePut l.items l.initial.list 0 l.at 0 l.i l.list
