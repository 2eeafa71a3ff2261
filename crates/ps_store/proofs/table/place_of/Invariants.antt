use Rattle.std.proofs.Common.{◌≡◌, take, None}
use Rattle.std.specs.Map.{lookup}
use Rattle.ps_store.specs.Keys.{same_key}
use Rattle.ps_store.proofs.table.place_of.Given as goal

-- none of the entries so far has the key
abbrev pub invariant-loop-at : goal.invariant-loop-at
invariant-loop-at l = lookup (same_key l.key) (take l.at l.list) ≡ None
