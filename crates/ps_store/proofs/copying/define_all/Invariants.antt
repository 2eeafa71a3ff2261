use Rattle.std.proofs.Common.{◌≡◌, ◌≤◌, ◌+◌, length, drop}
use Rattle.std.specs.Prelude.{count_by}
use Rattle.indexmap.specs.IndexMap.{insert_all}
use Rattle.ps_store.specs.Keys.{same_key}
use Rattle.ps_store.specs.Copying.{lacks}
use Rattle.ps_store.proofs.copying.define_all.Given as goal

-- what is left gives the same entries at the end, and there is room for its new keys
abbrev pub invariant-loop-at : goal.invariant-loop-at
invariant-loop-at l =
    (insert_all same_key l.target (drop l.at l.source) ≡ insert_all same_key l.fn.target l.source)
    × (length l.target + count_by (lacks l.target) (drop l.at l.source) ≤ 65535)
