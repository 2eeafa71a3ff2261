-- Many objects at once, between strings, arrays and the operands. Own rule: from the first place to the last.
use Rattle.std.specs.Prelude.{ℕ, ◌+◌, ◌*◌, List, [], ◌∷◌, length, map, pos, Option, Some, None, if◌then◌else◌}
use Rattle.std.specs.List.{range_with_len}
use Rattle.ps_store.specs.declared.obj.Obj.{Obj}
use Rattle.ps_store.specs.declared.obj.Obj.TheVariants.{Int}
use Rattle.ps_store.specs.declared.obj.Part.{Part}
use Rattle.ps_store.specs.declared.key.Key.{Key}
use Rattle.ps_store.specs.declared.store.Composite.TheVariants.{Dict}
use Rattle.ps_store.specs.Store.{StoreValue, element, put_at, fits, with_new}

-- the elements of an array, or the bytes of a string as integers
abbrev pub elements : StoreValue → Part → List Obj
elements s span = map (element s span) (range_with_len 0 span.len)

-- the store with these objects at the places of an array or a string from one on
unfoldable pub with_elements : StoreValue → Part → ℕ → List Obj → StoreValue
with_elements s span at [] = s
with_elements s span at (o ∷ items) = with_elements (put_at s span at o) span (at + 1) items

-- bytes as the integers that stand for them
abbrev pub integers : List ℕ → List Obj
integers bytes = map (λ byte. Int (pos byte)) bytes

-- a new dictionary of these entries, and its number, nothing where there is no room for one composite more and 32 units
-- an entry
abbrev pub with_dict_of : StoreValue → List (Key × Obj) → Option (ℕ × StoreValue)
with_dict_of s entries =
    if fits s 1 (32 * length entries) then Some (length s.made, with_new s (Dict entries) (32 * length entries))
    else None
