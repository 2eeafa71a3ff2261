-- The cache machine: its states.
use Rattle.std.specs.Prelude.{ℕ, List}
use Rattle.cache_core.specs.declared.step.Entry.{Entry}
use Rattle.cache_core.specs.declared.step.Phase.{Phase}

-- a state: `capacity` is how many places there are; `entries` stand in the order of their last use, the least
-- recently used first; `phases` has one phase for each seat; `next_res` is the residency of the next entry
pub record CoreStateValue : Type 0 where
  pub capacity : ℕ
  pub entries : List Entry
  pub phases : List Phase
  pub next_res : ℕ
