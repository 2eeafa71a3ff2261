-- Copies from one composite to another (PostScript Language Reference, third edition, 8.2 copy).
-- Own rules: where two parts overlap, the source is read whole before the first place is written; a
-- part outside its composite changes nothing. Of a dictionary's entries only those under keys that
-- the other one lacks count against the limits, and a limit refuses all of them.
use Rattle.std.specs.Prelude.{ℕ, ◌+◌, ◌-◌, ◌*◌, ◌==◌, Bool, not, ◌&&◌, List, ◌++◌, length, take, drop, Option, Some}
use Rattle.std.specs.Prelude.{None, nat_le, count_by, slice_set, if◌then◌else◌}
use Rattle.std.specs.Map.{lookup}
use Rattle.std.specs.Option.{is_some}
use Rattle.indexmap.specs.IndexMap.{insert_all}
use Rattle.ps_store.specs.declared.key.Key.{Key}
use Rattle.ps_store.specs.declared.obj.Obj.{Obj}
use Rattle.ps_store.specs.declared.obj.Part.{Part}
use Rattle.ps_store.specs.declared.store.Composite.{Composite}
use Rattle.ps_store.specs.declared.store.Composite.TheVariants.{Text, Array, Dict}
use Rattle.ps_store.specs.Keys.{same_key}
use Rattle.ps_store.specs.Store.{StoreValue, composite, piece, with_changed}

-- a list with other items at its places from one on; as it is where it ends before
abbrev pub placed : {X : Type 0} → List X → ℕ → List X → List X
placed xs at items = if nat_le (at + length items) (length xs) then take at xs ++ items
    ++ drop (at + length items) xs else xs

-- a string or an array with the items of a part of one of its kind at its places from one on; as it is where the kinds
-- differ or the part ends outside
abbrev pub pasted : Option Composite → ℕ → ℕ → ℕ → Composite → Composite
pasted (Some (Text from)) start len at (Text to) = Text (placed to at (piece from start len))
pasted (Some (Array from)) start len at (Array to) = Array (placed to at (piece from start len))
pasted source start len at target = target

-- the store with the items of one part at the first places of another
abbrev pub copied_part : StoreValue → Part → Part → StoreValue
copied_part s from to = with_changed s to.id (pasted (composite s from.id) from.start from.len to.start)
    (composite s to.id)

-- whether entries have none under the key of this one
abbrev pub lacks : List (Key × Obj) → Key × Obj → Bool
lacks entries entry = not (is_some (lookup (same_key entry.0) entries))

-- a dictionary with the entries of another one defined, one after the other, and the units that they
-- take; None where it would have too many or there are not so many units
abbrev pub extended : Option Composite → ℕ → Composite → Option (Composite × ℕ)
extended (Some (Dict more)) free (Dict entries) =
    let fresh = count_by (lacks entries) more in
    if nat_le (length entries + fresh) 65535 && nat_le (32 * fresh) free
    then Some (Dict (insert_all same_key entries more), 32 * fresh) else None
extended source free c = Some (c, 0)

-- the store with a dictionary so extended and the units that it took, nothing where a limit refused it
abbrev pub with_extended : StoreValue → ℕ → Option (Composite × ℕ) → Option StoreValue
with_extended s dict (Some r) = Some (record { made = slice_set s.made dict r.0; units = s.units + r.1 })
with_extended s dict None = None

-- the store with the entries of one composite defined in another, by the units that the limit leaves
abbrev pub extend_in : StoreValue → ℕ → Option Composite → Option Composite → Option StoreValue
extend_in s dict source (Some c) = with_extended s dict (extended source (268435456 - s.units) c)
extend_in s dict source None = Some s

-- the store with the entries of one dictionary in another too, None where a limit refuses them
abbrev pub copied_entries : StoreValue → ℕ → ℕ → Option StoreValue
copied_entries s from to = if from == to then Some s else extend_in s to (composite s from) (composite s to)
