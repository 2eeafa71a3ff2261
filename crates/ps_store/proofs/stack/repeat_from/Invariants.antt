use Rattle.std.proofs.Common.{◌≡◌, ◌-◌, ◌++◌, take, drop}
use Rattle.ps_store.proofs.stack.repeat_from.Given as goal

-- the elements from the place on that were passed stand behind the old ones
abbrev pub invariant-loop-at : goal.invariant-loop-at
invariant-loop-at l = l.items.items ≡ l.initial.items.items ++ take (l.at - l.from) (drop l.from l.initial.items.items)
