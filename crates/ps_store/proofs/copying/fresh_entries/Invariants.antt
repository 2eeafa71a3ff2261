use Rattle.std.proofs.Common.{◌≡◌, ◌≤◌, ◌+◌, drop}
use Rattle.std.specs.Prelude.{count_by}
use Rattle.ps_store.specs.Copying.{lacks}
use Rattle.ps_store.proofs.copying.fresh_entries.Given as goal

-- with those among the entries that are left the count is whole
abbrev pub invariant-loop-at : goal.invariant-loop-at
invariant-loop-at l =
    (l.fresh + count_by (lacks l.target) (drop l.at l.source) ≡ count_by (lacks l.target) l.source) × (l.fresh ≤ l.at)
