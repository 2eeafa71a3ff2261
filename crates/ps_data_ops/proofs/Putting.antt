-- What `put` does, by what it puts into.
use Rattle.std.proofs.Common.{◌≡◌, ◌≢◌, ℕ, Bool, List, ◌∷◌, refl}
use Rattle.press_fault.specs.declared.names.PsName.TheVariants.{TypeCheck}
use Rattle.ps_store.specs.declared.obj.Obj.{Obj}
use Rattle.ps_store.specs.declared.obj.Obj.TheVariants.{Int, Text, Array, Dict}
use Rattle.ps_store.specs.declared.obj.Part.{Part}
use Rattle.ps_store.specs.KeyOf.{key_of}
use Rattle.ps_store.specs.Outcome.{Refuses}
use Rattle.ps_store.specs.Store.{StoreValue}
use Rattle.ps_data_ops.specs.Dictionaries.{define_row, put_row}

-- into a dictionary, whatever the key is
pub put_of_dict : (o k : Obj) (d : ℕ) (rest : List Obj) (s : StoreValue) →
    put_row (o ∷ k ∷ Dict d ∷ rest) s ≡ define_row s d (key_of s k) o rest
put_of_dict o (Int i) d rest s = refl
put_of_dict o k d rest s = refl

-- into what holds no values
pub put_of_other : (o k w : Obj) (rest : List Obj) (s : StoreValue) → ((p : Part) (x : Bool) → w ≢ Array p x) →
    ((p : Part) → w ≢ Text p) → ((d : ℕ) → w ≢ Dict d)
    → put_row (o ∷ k ∷ w ∷ rest) s ≡ Refuses TypeCheck
put_of_other o (Int i) (Array p x) rest s array text dict = absurd (array p x refl)
put_of_other (Int n) (Int i) (Text p) rest s array text dict = absurd (text p refl)
put_of_other o k (Dict d) rest s array text dict = absurd (dict d refl)
put_of_other o k w rest s array text dict = refl
