-- `bind` (PostScript Language Reference, third edition, 3.12.1 The bind Operator): executable names whose value is an
-- operator are replaced by it, in a procedure and in every procedure that is reached through elements. A literal array
-- is no procedure. Own rule: a procedure is its composite, start and length, and may be reached from itself.
use Rattle.std.specs.Prelude.{◌≡◌, ℕ, zero, suc, ◌+◌, ◌<◌, ◌==◌, ◌&&◌, ◌++◌, Bool, true, List, [], ◌∷◌, length, Option}
use Rattle.std.specs.Prelude.{Some, None, nat_le, nat_lt, option_and_then, if◌then◌else◌}
use Rattle.std.specs.List.{filter_map, flat_map, list_any, range_with_len}
use Rattle.ps_store.specs.declared.key.Key.TheVariants.{Named}
use Rattle.ps_store.specs.declared.obj.Obj.{Obj}
use Rattle.ps_store.specs.declared.obj.Obj.TheVariants.{Name, Array as ArrayOf, Oper as Operator}
use Rattle.ps_store.specs.declared.oper.Oper.{Oper}
use Rattle.ps_store.specs.declared.store.Composite.{Composite}
use Rattle.ps_store.specs.declared.store.Composite.TheVariants.{Array}
use Rattle.ps_store.specs.Dicts.{find_key}
use Rattle.ps_store.specs.Parts.{PartValue}
use Rattle.ps_store.specs.Store.{StoreValue, object_at, operator_of}

-- the operator that is the value of an executable name, if there is one
abbrev pub operator_named : List ℕ → StoreValue → Obj → Option Oper
operator_named dicts s (Name name true) = option_and_then operator_of (find_key s dicts (Named name))
operator_named dicts s o = None

-- the operator in place of an object, where there is one, else the object
abbrev pub bound_to : Option Oper → Obj → Obj
bound_to (Some op) o = Operator op
bound_to None o = o

-- what an element of a procedure becomes: a name of an operator that operator, all else stays
abbrev pub bound : List ℕ → StoreValue → Obj → Obj
bound dicts s o = bound_to (operator_named dicts s o) o

-- the procedure that an object is, if it is one
abbrev pub procedure_of : Obj → Option PartValue
procedure_of (ArrayOf p true) = Some p
procedure_of o = None

-- the procedure that is an element of one, at a place
abbrev pub procedure_at : StoreValue → PartValue → ℕ → Option PartValue
procedure_at s p at = option_and_then procedure_of (object_at s p at)

-- the procedures that are elements of one, at so many places from one on
abbrev pub procedures_from : StoreValue → PartValue → ℕ → ℕ → List PartValue
procedures_from s p at len = filter_map (procedure_at s p) (range_with_len at len)

-- the procedures that are elements of one
abbrev pub procedures_in : StoreValue → PartValue → List PartValue
procedures_in s p = procedures_from s p 0 p.len

-- a procedure is reached from one, which is reached itself, through elements that are procedures
pub data Reaches (s : StoreValue) (p : PartValue) : PartValue → Type 0 where
  here : Reaches s p p
  further : (q r : PartValue) (at : ℕ) → Reaches s p q → at < q.len → procedure_at s q at ≡ Some r → Reaches s p r

-- the procedures that stand in a composite
abbrev pub procedures_of : Composite → List PartValue
procedures_of (Array items) = filter_map procedure_of items
procedures_of c = []

-- one procedure, and all that are elements of arrays
abbrev pub procedures_with : PartValue → StoreValue → List PartValue
procedures_with p s = p ∷ flat_map procedures_of s.made

-- whether two parts are the same places of one composite
abbrev pub same_part : PartValue → PartValue → Bool
same_part a b = (a.id == b.id) && ((a.start == b.start) && (a.len == b.len))

-- whether a part is among others
abbrev pub has : List PartValue → PartValue → Bool
has parts p = list_any (same_part p) parts

-- with the procedures that are elements of these, so many times
unfoldable pub reached_in : StoreValue → ℕ → List PartValue → List PartValue
reached_in s zero procedures = procedures
reached_in s (suc steps) procedures = reached_in s steps (procedures ++ flat_map (procedures_in s) procedures)

-- the procedures that are reached from one: no more steps lead to a further one than there are procedures. A law says
-- that these are those of Reaches
unfoldable pub reached : StoreValue → PartValue → List PartValue
reached s p = reached_in s (length (procedures_with p s)) (p ∷ [])

-- whether a place of a composite is one of a part
abbrev pub covers : PartValue → ℕ → ℕ → Bool
covers q id at = (q.id == id) && (nat_le q.start at && nat_lt at (q.start + q.len))

-- whether a place is one of a procedure that is reached
unfoldable pub is_reached_place : StoreValue → PartValue → ℕ → ℕ → Bool
is_reached_place s p id at = list_any (λ q. covers q id at) (reached s p)

-- objects, changed at the places that pass a test
unfoldable pub changed_items : (ℕ → Bool) → (Obj → Obj) → List Obj → List Obj
changed_items test change [] = []
changed_items test change (o ∷ items) = (if test 0 then change o else o)
    ∷ changed_items (λ at. test (suc at)) change items

-- a composite with the elements changed at the places that pass a test, where it is an array
abbrev pub changed_in : (ℕ → Bool) → (Obj → Obj) → Composite → Composite
changed_in test change (Array items) = Array (changed_items test change items)
changed_in test change c = c

-- composites with the elements of arrays changed at the places that pass a test
unfoldable pub changed_made : (ℕ → ℕ → Bool) → (Obj → Obj) → List Composite → List Composite
changed_made test change [] = []
changed_made test change (c ∷ made) = changed_in (test 0) change c ∷ changed_made (λ id. test (suc id)) change made

-- the store with the elements of arrays changed at the places that pass a test
abbrev pub changed_store : (ℕ → ℕ → Bool) → (Obj → Obj) → StoreValue → StoreValue
changed_store test change s = record { made = changed_made test change s.made; units = s.units }

-- the store as `bind` of a procedure leaves it: the elements of all that are reached are bound
unfoldable pub bind_store : List ℕ → StoreValue → PartValue → StoreValue
bind_store dicts s p = changed_store (is_reached_place s p) (bound dicts s) s
