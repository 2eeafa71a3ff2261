-- How many steps are still owed.
use Rattle.std.specs.Prelude.{ℕ, List, sum_by}
use Rattle.cache_core.specs.declared.step.Phase.{Phase}
use Rattle.cache_core.specs.declared.step.Phase.TheVariants.{Building, Holding}

-- the steps that a seat still owes: who builds publishes and releases, who holds releases
abbrev pub owed : Phase → ℕ
owed (Building r) = 2
owed (Holding r) = 1
owed _ = 0

-- the steps that all seats owe
abbrev pub all_owed : List Phase → ℕ
all_owed phases = sum_by owed phases
