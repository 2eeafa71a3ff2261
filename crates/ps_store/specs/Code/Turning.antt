-- Objects turned round in their list, each from its old place straight to its new one. Own rule: words of the code
-- alone.
use Rattle.std.specs.Prelude.{◌≡◌, ℕ, ◌+◌, ◌<◌, ◌≤◌, Bool, true, false, List, ◌++◌, take, drop, slice_index_or}
use Rattle.ps_store.specs.declared.obj.Obj.{Obj}

-- of n places that are turned by k, the object of place j goes to place i
pub record IsSource (n k i j : ℕ) : Type 0 where
  pub ahead : i + k < n → j ≡ i + k
  pub round : n ≤ i + k → j + n ≡ i + k

-- whether a place is settled: it holds its new object
abbrev pub IsSettled : List Bool → ℕ → Type 0
IsSettled settled i = slice_index_or settled i false ≡ true

-- a place whose source is settled is settled too
abbrev pub AreClosed : ℕ → ℕ → List Bool → Type 0
AreClosed n k settled =
    (i j : ℕ) → i < n → IsSource n k i j → IsSettled settled j → IsSettled settled i

-- of n places the settled ones hold their new objects, the others their old ones
pub record ArePartlyTurned (n k : ℕ) (before : List Obj) (settled : List Bool) (now : List Obj) : Type 0 where
  pub placed : (i j : ℕ) (d : Obj) → i < n → IsSource n k i j → IsSettled settled i →
      slice_index_or now i d ≡ slice_index_or before j d
  pub waiting : (i : ℕ) (d : Obj) → i < n → slice_index_or settled i false ≡ false →
      slice_index_or now i d ≡ slice_index_or before i d

-- the objects from a place on turned round by k places
abbrev pub turned_from : ℕ → ℕ → List Obj → List Obj
turned_from from k items = take from items ++ (drop k (drop from items) ++ take k (drop from items))
