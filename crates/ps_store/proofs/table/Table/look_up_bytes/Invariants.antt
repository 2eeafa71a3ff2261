use Rattle.std.proofs.Common.{◌≡◌, drop}
use Rattle.std.specs.Map.{lookup}
use Rattle.ps_store.specs.declared.key.Key.TheVariants.{Named}
use Rattle.ps_store.specs.Keys.{same_key}
use Rattle.ps_store.specs.Code.Entering.{entries_in_table}
use Rattle.ps_store.proofs.table.Table.look_up_bytes.Given as goal

-- what the entries that are left give is what all give
abbrev pub invariant-loop-place : goal.invariant-loop-place
invariant-loop-place l =
    lookup (same_key (Named l.bytes)) (drop l.place (entries_in_table l.self))
    ≡ lookup (same_key (Named l.bytes)) (entries_in_table l.self)
