-- systemdict as it is filled. Own rule: two empty dictionaries, then the operators in order.
use Rattle.std.specs.Prelude.{List, [], ◌∷◌, unwrap_or}
use Rattle.std.specs.List.{fold}
use Rattle.ps_store.specs.declared.obj.Obj.TheVariants.{Oper as Operator}
use Rattle.ps_store.specs.declared.oper.Oper.{Oper}
use Rattle.ps_store.specs.declared.key.Key.TheVariants.{Named}
use Rattle.ps_store.specs.declared.store.Composite.TheVariants.{Dict}
use Rattle.ps_store.specs.Operators.{name_of}
use Rattle.ps_store.specs.Store.{StoreValue, defined}

-- a store of two empty dictionaries
abbrev pub two_empty : StoreValue
two_empty = record { made = Dict [] ∷ Dict [] ∷ []; units = 0 }

-- with an operator in systemdict, where no limit refuses it
abbrev pub with_operator : StoreValue → Oper → StoreValue
with_operator s op = unwrap_or (defined s 0 (Named (name_of op)) (Operator op)) s

-- systemdict with these operators defined in order, and an empty userdict
abbrev pub with_operators : List Oper → StoreValue
with_operators ops = fold with_operator two_empty ops
