-- Own rule: bind goes from place to place of one procedure after the other. That the order makes no difference is
-- proved: the outcome is that of specs/Binding.antt.
use Rattle.std.specs.Prelude.{ℕ, zero, suc, ◌+◌, List, [], ◌∷◌, Option, Some, None, option_and_then}
use Rattle.ps_store.specs.declared.obj.Obj.TheVariants.{Oper as Operator}
use Rattle.ps_store.specs.declared.oper.Oper.{Oper}
use Rattle.ps_store.specs.Parts.{PartValue}
use Rattle.ps_store.specs.Store.{StoreValue, object_at, put_at}
use Rattle.ps_flow.specs.Binding.{operator_named}

-- the store with an operator at one place of a part, where there is one
abbrev pub replaced : StoreValue → PartValue → ℕ → Option Oper → StoreValue
replaced s p at (Some op) = put_at s p at (Operator op)
replaced s p at None = s

-- the store once a place of a part is bound
abbrev pub bound_at : List ℕ → StoreValue → PartValue → ℕ → StoreValue
bound_at dicts s p at = replaced s p at (option_and_then (operator_named dicts s) (object_at s p at))

-- the store once so many places of a part are bound, from one on
unfoldable pub bound_from : List ℕ → StoreValue → PartValue → ℕ → ℕ → StoreValue
bound_from dicts s p at zero = s
bound_from dicts s p at (suc len) = bound_from dicts (bound_at dicts s p at) p (at + 1) len

-- the store once all places of these parts are bound
unfoldable pub bound_all : List ℕ → StoreValue → List PartValue → StoreValue
bound_all dicts s [] = s
bound_all dicts s (p ∷ parts) = bound_all dicts (bound_from dicts s p 0 p.len) parts
