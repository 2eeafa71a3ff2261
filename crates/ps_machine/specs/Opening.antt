-- The dictionaries that a program finds (PostScript Language Reference, third edition, 3.7.5 Standard and User-Defined
-- Dictionaries).
-- Own rules: systemdict has the operators that are built, in the order of their numbers; its entries count in the
-- store like all others.
use Rattle.std.specs.Prelude.{◌*◌, [], ◌∷◌, length, map}
use Rattle.ps_store.specs.declared.obj.Obj.{Obj}
use Rattle.ps_store.specs.declared.obj.Obj.TheVariants.{Oper as Operator}
use Rattle.ps_store.specs.declared.oper.Oper.{Oper}
use Rattle.ps_store.specs.declared.key.Key.{Key}
use Rattle.ps_store.specs.declared.key.Key.TheVariants.{Named}
use Rattle.ps_store.specs.declared.store.Composite.TheVariants.{Dict}
use Rattle.ps_store.specs.Operators.{name_of, operators_built}
use Rattle.ps_store.specs.Store.{StoreValue}

-- an operator under its name
abbrev pub entry_of : Oper → Key × Obj
entry_of op = (Named (name_of op), Operator op)

-- systemdict with the operators that are built, in the order of their numbers, each entry of 32 units, as all others,
-- and an empty userdict
unfoldable pub opening_store : StoreValue
opening_store = record {
  made = Dict (map entry_of operators_built) ∷ Dict [] ∷ [];
  units =
      32 * length operators_built;
}
