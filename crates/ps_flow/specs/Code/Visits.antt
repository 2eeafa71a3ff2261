-- Own rule: bind visits each procedure once, in the order in which it reaches them.
use Rattle.std.specs.Prelude.{◌≡◌, ℕ, ◌+◌, ◌<◌, Bool, true, false, List, [], ◌∷◌, ◌++◌, Option, Some, None}
use Rattle.std.specs.Prelude.{if◌then◌else◌}
use Rattle.ps_store.specs.Parts.{PartValue}
use Rattle.ps_store.specs.Store.{StoreValue}
use Rattle.ps_flow.specs.Binding.{has, procedure_at, Reaches}

-- with one more, where it isn't there
abbrev pub with_visit : List PartValue → PartValue → List PartValue
with_visit visits p = if has visits p then visits else visits ++ p ∷ []

-- with one more that there may be, where it isn't there
abbrev pub with_found : List PartValue → Option PartValue → List PartValue
with_found visits (Some p) = with_visit visits p
with_found visits None = visits

-- with each of these in turn
unfoldable pub with_visits : List PartValue → List PartValue → List PartValue
with_visits visits [] = visits
with_visits visits (p ∷ procedures) = with_visits (with_visit visits p) procedures

-- these are the procedures that are reached from one
pub record AreReached (s : StoreValue) (p : PartValue) (visits : List PartValue) : Type 0 where
  pub sound : (q : PartValue) → has visits q ≡ true → Reaches s p q
  pub first : has visits p ≡ true
  pub closed : (q r : PartValue) (at : ℕ) → has visits q ≡ true → at < q.len → procedure_at s q at ≡ Some r →
      has visits r ≡ true

-- 1 for what is missing, else 0
abbrev pub missing : Bool → ℕ
missing true = 0
missing false = 1

-- how many of these weren't reached yet
unfoldable pub unvisited : List PartValue → List PartValue → ℕ
unvisited visits [] = 0
unvisited visits (p ∷ procedures) = missing (has visits p) + unvisited visits procedures
