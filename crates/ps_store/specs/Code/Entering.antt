-- Where the entries of a dictionary stand. Own rule: words of the code alone.
use Rattle.std.specs.Prelude.{◌≡◌, ℕ, ◌≤◌, ◌<◌, true, false, List, length, take, None}
use Rattle.std.specs.Prelude.{slice_index_or}
use Rattle.std.specs.Map.{lookup}
use Rattle.ps_store.specs.declared.key.Key.{Key}
use Rattle.ps_store.specs.declared.key.Key.TheVariants.{Named}
use Rattle.ps_store.specs.declared.obj.Obj.{Obj}
use Rattle.ps_store.specs.declared.table.Table.{Table}
use Rattle.ps_store.specs.declared.table.Table.TheVariants.{Few, Many}
use Rattle.ps_store.specs.Keys.{same_key}
use Rattle.ps_store.specs.Code.Hashing.{hash_of}
use Rattle.ps_store.specs.Code.Marking.{is_marked}

-- the entries of a table, in the order of first definition
abbrev pub entries_in_table : Table → List (Key × Obj)
entries_in_table (Few list) = list.items
entries_in_table (Many map) = map.value.entries

-- a name without its mark has no entry
abbrev pub AreMarked : List ℕ → List (Key × Obj) → Type 0
AreMarked words entries =
    (name : List ℕ) → is_marked words (hash_of name) ≡ false → lookup (same_key (Named name)) entries ≡ None

-- the first entry of a key is at a place
pub record IsFirstAt (key : Key) (list : List (Key × Obj)) (at : ℕ) : Type 0 where
  pub within : at < length list
  pub here : (d : Key × Obj) → same_key key (slice_index_or list at d).0 ≡ true
  pub none_before : lookup (same_key key) (take at list) ≡ None

-- the entries of a dictionary and its marks: not too many, and each name among them is marked
pub record AreKept (words : List ℕ) (entries : List (Key × Obj)) : Type 0 where
  pub few : length entries ≤ 65535
  pub size : length words ≡ 4
  pub marked : AreMarked words entries
