use Rattle.std.proofs.Common.{◌≡◌, drop}
use Rattle.std.specs.Map.{lookup}
use Rattle.ps_store.specs.declared.key.Key.TheVariants.{Named}
use Rattle.ps_store.specs.Keys.{same_key}
use Rattle.ps_store.proofs.table.value_of_name.Given as goal

-- what the entries that are left give is what all give
abbrev pub invariant-loop-at : goal.invariant-loop-at
invariant-loop-at l = lookup (same_key (Named l.name)) (drop l.at l.list) ≡ lookup (same_key (Named l.name)) l.list
