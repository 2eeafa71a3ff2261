-- Own rule: bind looks at each place of a composite once, also where procedures overlap. With a place it keeps a later
-- one: the places before that were looked at too, or will be once the procedure in hand is done.
use Rattle.std.specs.Prelude.{◌≡◌, ℕ, ◌+◌, ◌<◌, ◌≤◌, ◌⊎◌, Bool, true, List, Option, Some, nat_lt, if◌then◌else◌}
use Rattle.std.specs.Prelude.{option_and_then}
use Rattle.std.specs.List.{list_any}
use Rattle.std.specs.Map.{lookup, keys_of}
use Rattle.indexmap.specs.IndexMap.{insert_entry}
use Rattle.ps_store.specs.Parts.{PartValue}
use Rattle.ps_store.specs.Store.{StoreValue, composite, object_in}
use Rattle.ps_flow.specs.Binding.{covers, has, procedure_of, procedures_in, same_part}
use Rattle.ps_flow.specs.Code.Visits.{AreReached, with_visits}

-- one place of a composite, as a part
abbrev pub place_of : ℕ → ℕ → PartValue
place_of id at = record { id = id; start = at; len = 1 }

-- whether a place was looked at
abbrev pub is_seen : List (PartValue × ℕ) → ℕ → ℕ → Bool
is_seen seen id at = has (keys_of seen) (place_of id at)

-- the procedure that stands at a place of a composite, if one does
abbrev pub procedure_in : StoreValue → ℕ → ℕ → Option PartValue
procedure_in s id at = option_and_then procedure_of (object_in (composite s id) at)

-- a place that is left of a procedure, seen from a place before those that are left
abbrev pub IsLeft : PartValue → ℕ → ℕ → ℕ → ℕ → Type 0
IsLeft p at id k j = (id ≡ p.id) × (k < p.start + at) × (p.start + at ≤ j) × (j < p.start + p.len)

-- what is known of the places that were looked at, while a procedure is in hand whose first so many are done
pub record AreSeen (s : StoreValue) (visits : List PartValue) (seen : List (PartValue × ℕ)) (p : PartValue)
    (at : ℕ) : Type 0 where
  -- each is one place
  pub single : (q : PartValue) → has (keys_of seen) q ≡ true → q.len ≡ 1
  -- of a procedure that is reached
  pub sound : (id k : ℕ) → is_seen seen id k ≡ true → list_any (λ q. covers q id k) visits ≡ true
  -- a procedure that stands there is reached
  pub closed : (id k : ℕ) (r : PartValue) → is_seen seen id k ≡ true → procedure_in s id k ≡ Some r →
      has visits r ≡ true
  -- up to the later place all were looked at, or are left of the procedure in hand
  pub behind : (id k next : ℕ) → lookup (same_part (place_of id k)) seen ≡ Some next →
      (k < next) × ((j : ℕ) → k ≤ j → j < next → (is_seen seen id j ≡ true) ⊎ IsLeft p at id k j)
  -- the first places of the procedure in hand were looked at
  pub done : (k : ℕ) → p.start ≤ k → k < p.start + at → is_seen seen p.id k ≡ true

-- a procedure without places, in hand where there is none
abbrev pub nothing_in_hand : PartValue
nothing_in_hand = record { id = 0; start = 0; len = 0 }

-- with procedures that stand in one
pub record AreAdded (s : StoreValue) (p : PartValue) (old new : List PartValue) : Type 0 where
  pub added : List PartValue
  pub is : new ≡ with_visits old added
  pub among : (r : PartValue) → has added r ≡ true → has (procedures_in s p) r ≡ true

-- all places of a procedure were looked at
abbrev pub IsDone : List (PartValue × ℕ) → PartValue → Type 0
IsDone seen p = (k : ℕ) → p.start ≤ k → k < p.start + p.len → is_seen seen p.id k ≡ true

-- the procedures that are reached from one, and the places of these
pub record AreFound (s : StoreValue) (p : PartValue) (seen : List (PartValue × ℕ)) : Type 0 where
  pub visits : List PartValue
  pub reached : AreReached s p visits
  pub places : (id k : ℕ) → list_any (λ q. covers q id k) (keys_of seen) ≡ list_any (λ q. covers q id k) visits

-- the places that were looked at, once those up to the end of a part are passed with those from one of its places on
abbrev pub passed : List (PartValue × ℕ) → PartValue → ℕ → ℕ → List (PartValue × ℕ)
passed seen p at behind =
    if nat_lt behind (p.start + p.len) then insert_entry same_part seen (place_of p.id (p.start + at)) (p.start + p.len)
    else seen
