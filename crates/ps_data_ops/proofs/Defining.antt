-- What `def` does.
use Rattle.std.proofs.Common.{◌≡◌, ℕ, List, ◌∷◌, Result, refl}
use Rattle.ps_store.specs.declared.key.Key.{Key}
use Rattle.ps_store.specs.declared.key.KeyFault.{KeyFault}
use Rattle.ps_store.specs.declared.obj.Obj.{Obj}
use Rattle.ps_store.specs.KeyOf.{key_of}
use Rattle.ps_store.specs.Store.{StoreValue}
use Rattle.ps_data_ops.specs.Dictionaries.{def_row, define_row}

-- it defines the key below the top in the dictionary on top
pub def_of : (s : StoreValue) (stack : List Obj) (dicts : List ℕ) (o k value : Obj) (rest : List Obj) (d : ℕ)
    (below : List ℕ) (key : Result Key KeyFault) → stack ≡ o ∷ k ∷ rest → dicts ≡ d ∷ below → key ≡ key_of s k →
    value ≡ o → def_row stack s dicts ≡ define_row s d key value rest
def_of s stack dicts o k value rest d below key a b c e = rw (a, b, c, e) refl
