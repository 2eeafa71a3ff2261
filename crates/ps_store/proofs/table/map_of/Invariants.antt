use Rattle.std.proofs.Common.{◌≡◌, take}
use Rattle.ps_store.proofs.table.map_of.Given as goal

-- the map has the entries so far
abbrev pub invariant-loop-at : goal.invariant-loop-at
invariant-loop-at l = l.map.entries ≡ take l.at l.list
