-- The contents that a `forall` keeps, copied as a whole.
use Rattle.std.proofs.Common.{◌≡◌, ◌<◌, ◌+◌, ◌∙◌, ℕ, List, [], length, take, drop, map, get_or, true, false, nat_le}
use Rattle.std.proofs.Common.{Option, Some, None, pos, if◌then◌else◌, ap, subst, refl, arith}
use Rattle.std.specs.List.{range_with_len}
use Rattle.std.proofs.lemmas.List.{get_or-take, get_or-drop, get_or-map, length-map}
use Rattle.std.proofs.lemmas.List.FromFn.{fill_by_all}
use Rattle.ps_store.specs.declared.obj.Obj.{Obj}
use Rattle.ps_store.specs.declared.obj.Obj.TheVariants.{Null, Int}
use Rattle.ps_store.specs.declared.store.Composite.{Composite}
use Rattle.ps_store.specs.declared.store.Composite.TheVariants.{Text, Array, Dict}
use Rattle.ps_store.specs.Parts.{PartValue}
use Rattle.ps_store.specs.Store.{StoreValue, bytes_in, bytes_of, composite, item, objects_in, objects_of, piece}
use Rattle.ps_store.specs.Gathering.{elements, integers}

-- what stands at a place of so many items from one on, where the list has them all
piece_at : {X : Type 0} (xs : List X) (start len k : ℕ) (d : X) → length (piece xs start len) ≡ len → k < len →
    get_or (piece xs start len) k d ≡ get_or xs (start + k) d
piece_at xs start len k d long lt =
    (elim (nat_le (start + len) (length xs)) as
    (λ b. length (if b then take len (drop start xs) else []) ≡ len →
    get_or (if b then take len (drop start xs) else []) k d ≡ get_or xs (start + k) d) [
      | true ↦ λ _. get_or-take len (drop start xs) k d lt ∙ get_or-drop start xs k d
      | false ↦ λ none. absurd (omega (arith, lt, none))
    ]) long

-- of nothing nothing is left
nothing_left : (f : ℕ → Obj) (len : ℕ) → 0 ≡ len → [] ≡ map f (range_with_len 0 len)
nothing_left f len none = subst (λ (n : ℕ). [] ≡ map f (range_with_len 0 n)) none refl

objects_in_are : (c : Option Composite) (start len : ℕ) → length (objects_in c start len) ≡ len →
    objects_in c start len ≡ map (λ at. item c (start + at)) (range_with_len 0 len)
objects_in_are (Some (Array items)) start len long =
    fill_by_all (λ at. item (Some (Array items)) (start + at)) (piece items start len) len Null long
    (λ k lt. piece_at items start len k Null long lt)
objects_in_are (Some (Text bytes)) start len long = nothing_left (λ at. item (Some (Text bytes)) (start + at)) len long
objects_in_are (Some (Dict entries)) start len long =
    nothing_left (λ at. item (Some (Dict entries)) (start + at)) len long
objects_in_are None start len long = nothing_left (λ at. item None (start + at)) len long

bytes_in_are : (c : Option Composite) (start len : ℕ) → length (bytes_in c start len) ≡ len →
    integers (bytes_in c start len) ≡ map (λ at. item c (start + at)) (range_with_len 0 len)
bytes_in_are (Some (Text bytes)) start len long =
    fill_by_all (λ at. item (Some (Text bytes)) (start + at)) (integers (piece bytes start len)) len Null
    (length-map (piece bytes start len) (λ byte. Int (pos byte)) ∙ long)
    (λ k lt. get_or-map (λ byte. Int (pos byte)) (piece bytes start len) k 0 Null (omega (arith, lt, long))
    ∙ ap (λ byte. Int (pos byte)) (piece_at bytes start len k 0 long lt))
bytes_in_are (Some (Array items)) start len long =
    nothing_left (λ at. item (Some (Array items)) (start + at)) len long
bytes_in_are (Some (Dict entries)) start len long =
    nothing_left (λ at. item (Some (Dict entries)) (start + at)) len long
bytes_in_are None start len long = nothing_left (λ at. item None (start + at)) len long

-- the objects of a part that lies within an array are its elements
pub objects_are_elements : (s : StoreValue) (p : PartValue) → length (objects_of s p) ≡ p.len →
    objects_of s p ≡ elements s p
objects_are_elements s p long = objects_in_are (composite s p.id) p.start p.len long

-- the bytes of a part that lies within a string are its elements, as integers
pub bytes_are_elements : (s : StoreValue) (p : PartValue) → length (bytes_of s p) ≡ p.len →
    integers (bytes_of s p) ≡ elements s p
bytes_are_elements s p long = bytes_in_are (composite s p.id) p.start p.len long
