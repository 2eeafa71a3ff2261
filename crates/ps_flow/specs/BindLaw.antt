-- What bind changes (PostScript Language Reference, third edition, 3.12.1 The bind Operator): exactly the executable
-- names, in the procedures that are reached, whose value is an operator.
use Rattle.std.specs.Prelude.{◌≡◌, ℕ, ◌<◌, false, List, Some, length}
use Rattle.ps_store.specs.declared.obj.Obj.{Obj}
use Rattle.ps_store.specs.Parts.{PartValue}
use Rattle.ps_store.specs.Store.{StoreValue, bytes_of, entries_of, object_at, object_in, composite}
use Rattle.ps_flow.specs.Binding.{Reaches, bound, covers}

-- what bind changes: in the procedures that are reached, the names of operators, and nothing else
pub record BindsExactly (dicts : List ℕ) (old : StoreValue) (p : PartValue) (new : StoreValue) : Type 0 where
  -- an element of a procedure that is reached: a name of an operator becomes the operator, all else stays
  pub reached : (q : PartValue) (at : ℕ) (o : Obj) → Reaches old p q → at < q.len → object_at old q at ≡ Some o →
      object_at new q at ≡ Some (bound dicts old o)
  -- an element of an array that is in no such procedure
  pub others : (id at : ℕ) → ((q : PartValue) → Reaches old p q → covers q id at ≡ false) →
      object_in (composite new id) at ≡ object_in (composite old id) at
  -- dictionaries
  pub entries : (dict : ℕ) → entries_of new dict ≡ entries_of old dict
  -- strings
  pub bytes : (q : PartValue) → bytes_of new q ≡ bytes_of old q
  -- the numbers of composites and of units
  pub count : length new.made ≡ length old.made
  pub units : new.units ≡ old.units
