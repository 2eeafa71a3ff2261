-- Lists and stores whose objects are all of a store.
use Rattle.std.specs.Prelude.{nat_le, slice_get, slice_set, slice_index_or, map, reverse, replicate, ◌==◌, ◌&&◌}
use Rattle.std.proofs.lemmas.List.{length-append, length-set}
use mathlib.Core.List.{reverse_aux}
use Rattle.std.proofs.Common.{◌≡◌, ℕ, zero, suc, ◌+◌, ◌-◌, ◌*◌, ◌≤◌, ◌<◌, List, [], ◌∷◌, ◌++◌, length, take, drop}
use Rattle.std.proofs.Common.{Option, Some, None, arith}
use Rattle.indexmap.specs.IndexMap.{insert_entry, insert_all}
use Rattle.ps_store.specs.declared.key.Key.{Key}
use Rattle.ps_store.specs.declared.obj.Obj.{Obj}
use Rattle.ps_store.specs.declared.obj.Obj.TheVariants.{Null, Int, Text, Array, Dict}
use Rattle.ps_store.specs.declared.obj.Part.{Part}
use Rattle.ps_store.specs.declared.store.Composite.{Composite}
use Rattle.ps_store.specs.declared.store.Composite.TheVariants.{Text as TextOf, Array as ArrayOf, Dict as DictOf}
use Rattle.ps_store.specs.Keys.{same_key}
use Rattle.ps_store.specs.Store.{StoreValue, fits, with_new, next_span, with_composite, with_text, with_text_of}
use Rattle.ps_store.specs.Store.{with_array, with_array_of, with_dict, composite, item, element, piece, put_in}
use Rattle.ps_store.specs.Store.{with_changed, put_at, entries_in, entries_of, is_new_in, is_full_of, with_entry}
use Rattle.ps_store.specs.Store.{define_in, defined}
use Rattle.ps_store.specs.Copying.{placed, pasted, copied_part, extended, with_extended, extend_in, copied_entries}
use Rattle.ps_store.specs.Gathering.{with_elements, with_dict_of}
use Rattle.ps_laws.specs.Stored.{Each, IsOf, HoldsOf}
use Rattle.ps_laws.proofs.Operands.{by_test}

-- what follows from a fact holds of each element that the fact holds of
pub each_weaker : {X : Type 0} (P Q : X → Type 0) (f : (x : X) → P x → Q x) (xs : List X) → Each P xs → Each Q xs
each_weaker P Q f [] h = tt
each_weaker P Q f (x ∷ xs) h = (f x h.0, each_weaker P Q f xs h.1)

-- what holds of each element of two lists holds of each of both in a row
pub each_append : {X : Type 0} (P : X → Type 0) (xs ys : List X) → Each P xs → Each P ys → Each P (xs ++ ys)
each_append P [] ys h k = k
each_append P (x ∷ xs) ys h k = (h.0, each_append P xs ys h.1 k)

-- what holds of each element holds of each of the first n
pub each_take : {X : Type 0} (P : X → Type 0) (n : ℕ) (xs : List X) → Each P xs → Each P (take n xs)
each_take P zero xs h = tt
each_take P (suc n) [] h = tt
each_take P (suc n) (x ∷ xs) h = (h.0, each_take P n xs h.1)

-- what holds of each element holds of each behind the first n
pub each_drop : {X : Type 0} (P : X → Type 0) (n : ℕ) (xs : List X) → Each P xs → Each P (drop n xs)
each_drop P zero xs h = h
each_drop P (suc n) [] h = tt
each_drop P (suc n) (x ∷ xs) h = each_drop P n xs h.1

each_onto : {X : Type 0} (P : X → Type 0) (xs ys : List X) → Each P xs → Each P ys → Each P (reverse_aux xs ys)
each_onto P [] ys h k = k
each_onto P (x ∷ xs) ys h k = each_onto P xs (x ∷ ys) h.1 (h.0, k)

-- what holds of each element holds of each in the other order
pub each_reverse : {X : Type 0} (P : X → Type 0) (xs : List X) → Each P xs → Each P (reverse xs)
each_reverse P xs h = each_onto P xs [] h tt

pub each_set : {X : Type 0} (P : X → Type 0) (xs : List X) (i : ℕ) (x : X) → Each P xs → P x → Each P (slice_set xs i x)
each_set P [] i x h k = tt
each_set P (y ∷ ys) zero x h k = (k, h.1)
each_set P (y ∷ ys) (suc i) x h k = (h.0, each_set P ys i x h.1 k)

pub each_index : {X : Type 0} (P : X → Type 0) (xs : List X) (i : ℕ) (d : X) → Each P xs → P d →
    P (slice_index_or xs i d)
each_index P [] i d h k = k
each_index P (y ∷ ys) zero d h k = h.0
each_index P (y ∷ ys) (suc i) d h k = each_index P ys i d h.1 k

-- P holds of what is there
abbrev pub OfSome : {X : Type 0} → (X → Type 0) → Option X → Type 0
OfSome P (Some x) = P x
OfSome P None = Unit {0}

-- what holds of each element holds of the one at a place, if there is one
pub each_get : {X : Type 0} (P : X → Type 0) (xs : List X) (i : ℕ) → Each P xs → OfSome P (slice_get xs i)
each_get P [] i h = tt
each_get P (x ∷ xs) zero h = h.0
each_get P (x ∷ xs) (suc i) h = each_get P xs i h.1

-- what holds of each image holds of each element of the mapped list
pub each_map : {X Y : Type 0} (P : Y → Type 0) (f : X → Y) (all : (x : X) → P (f x)) (xs : List X) → Each P (map f xs)
each_map P f all [] = tt
each_map P f all (x ∷ xs) = (all x, each_map P f all xs)

pub each_replicate : {X : Type 0} (P : X → Type 0) (n : ℕ) (x : X) → P x → Each P (replicate n x)
each_replicate P zero x h = tt
each_replicate P (suc n) x h = (h, each_replicate P n x h)

-- what is of a store of m composites is of every larger one
pub is_more : (m n : ℕ) → m ≤ n → (o : Obj) → IsOf m o → IsOf n o
is_more m n le (Text p) h = omega arith
is_more m n le (Array p x) h = omega arith
is_more m n le (Dict d) h = omega arith
is_more m n le o h = tt

-- objects of a store of m composites are of every larger one
pub are_more : (m n : ℕ) → m ≤ n → (os : List Obj) → Each (IsOf m) os → Each (IsOf n) os
are_more m n le os h = each_weaker (IsOf m) (IsOf n) (is_more m n le) os h

-- what a composite holds of a store of m composites is of every larger one
pub holds_more : (m n : ℕ) → m ≤ n → (c : Composite) → HoldsOf m c → HoldsOf n c
holds_more m n le (TextOf bytes) h = tt
holds_more m n le (ArrayOf items) h = are_more m n le items h
holds_more m n le (DictOf entries) h = each_weaker (λ (e : Key × Obj). IsOf m e.1) (λ (e : Key × Obj). IsOf n e.1)
    (λ e k. is_more m n le e.1 k) entries h

-- what a store holds is of it, and it has systemdict and userdict
abbrev pub Sound : StoreValue → Type 0
Sound s = Each (HoldsOf (length s.made)) s.made × (2 ≤ length s.made)

-- the same of a later one, which has no fewer composites
abbrev pub Grown : ℕ → StoreValue → Type 0
Grown m t = Sound t × (m ≤ length t.made)

grown_set : (s : StoreValue) (units id : ℕ) (c : Composite) → Sound s → HoldsOf (length s.made) c →
    Grown (length s.made) (record { made = slice_set s.made id c; units = units })
grown_set s units id c h k =
    let e : length (slice_set s.made id c) ≡ length s.made = length-set s.made id c in (
      (
        each_weaker (HoldsOf (length s.made)) (HoldsOf (length (slice_set s.made id c)))
            (holds_more (length s.made) (length (slice_set s.made id c)) (omega arith))
            (slice_set s.made id c) (each_set (HoldsOf (length s.made)) s.made id c h.0 k),
        omega arith,
      ),
      omega arith,
    )

grown_new : (s : StoreValue) (c : Composite) (units : ℕ) → Sound s → HoldsOf (length s.made) c →
    Grown (suc (length s.made)) (with_new s c units)
grown_new s c units h k =
    let e : length (s.made ++ c ∷ []) ≡ length s.made + 1 = length-append s.made (c ∷ []) in (
      (
        each_weaker (HoldsOf (length s.made)) (HoldsOf (length (s.made ++ c ∷ [])))
            (holds_more (length s.made) (length (s.made ++ c ∷ [])) (omega arith))
            (s.made ++ c ∷ []) (each_append (HoldsOf (length s.made)) s.made (c ∷ []) h.0 (k, tt)),
        omega arith,
      ),
      omega arith,
    )

grown_changed : (s : StoreValue) (id : ℕ) (change : Composite → Composite) (o : Option Composite) → Sound s →
    OfSome (HoldsOf (length s.made)) o → ((c : Composite) → HoldsOf (length s.made) c →
    HoldsOf (length s.made) (change c)) → Grown (length s.made) (with_changed s id change o)
grown_changed s id change (Some c) h k f = grown_set s s.units id (change c) h (f c k)
grown_changed s id change None h k f = (h, omega arith)

holds_put : (m : ℕ) (c : Composite) (i : ℕ) (o : Obj) → HoldsOf m c → IsOf m o → HoldsOf m (put_in c i o)
holds_put m (TextOf bytes) i (Int z) h k = tt
holds_put m (ArrayOf items) i o h k = each_set (IsOf m) items i o h k
holds_put m c i o h k = h

-- a store with an object of it at a place is sound, and has lost no composite
pub grown_put : (s : StoreValue) (p : Part) (at : ℕ) (o : Obj) → Sound s → IsOf (length s.made) o →
    Grown (length s.made) (put_at s p at o)
grown_put s p at o h k = grown_changed s p.id (λ c. put_in c (p.start + at) o) (composite s p.id) h
    (each_get (HoldsOf (length s.made)) s.made p.id h.0)
    (λ c f. holds_put (length s.made) c (p.start + at) o f k)

-- a store with objects of it at places of a part is sound, and has lost no composite
pub grown_elements : (s : StoreValue) (p : Part) (at : ℕ) (items : List Obj) → Sound s →
    Each (IsOf (length s.made)) items → Grown (length s.made) (with_elements s p at items)
unfolding with_elements
grown_elements s p at [] h k = (h, omega arith)
grown_elements s p at (o ∷ items) h k =
    let g = grown_put s p at o h k.0 in
    let rest = grown_elements (put_at s p at o) p (at + 1) items g.0
    (are_more (length s.made) (length (put_at s p at o).made) g.1 items k.1) in
    (rest.0, omega arith)

each_piece : (m : ℕ) (items : List Obj) (start len : ℕ) → Each (IsOf m) items → Each (IsOf m) (piece items start len)
each_piece m items start len h = by_test (Each (IsOf m)) (nat_le (start + len) (length items))
    (take len (drop start items)) []
    (λ e. each_take (IsOf m) len (drop start items) (each_drop (IsOf m) start items h)) (λ e. tt)

each_placed : (m : ℕ) (xs : List Obj) (at : ℕ) (items : List Obj) → Each (IsOf m) xs → Each (IsOf m) items →
    Each (IsOf m) (placed xs at items)
each_placed m xs at items h k = by_test (Each (IsOf m)) (nat_le (at + length items) (length xs))
    (take at xs ++ items ++ drop (at + length items) xs) xs
    (λ e. each_append (IsOf m) (take at xs ++ items) (drop (at + length items) xs)
    (each_append (IsOf m) (take at xs) items (each_take (IsOf m) at xs h) k)
    (each_drop (IsOf m) (at + length items) xs h))
    (λ e. h)

holds_pasted : (m : ℕ) (source : Option Composite) (start len at : ℕ) (target : Composite) → OfSome (HoldsOf m) source →
    HoldsOf m target → HoldsOf m (pasted source start len at target)
holds_pasted m (Some (TextOf from)) start len at (TextOf to) h k = tt
holds_pasted m (Some (ArrayOf from)) start len at (ArrayOf to) h k =
    each_placed m to at (piece from start len) k (each_piece m from start len h)
holds_pasted m source start len at target h k = k

-- a store with the items of one part in another is sound, and has lost no composite
pub grown_copied : (s : StoreValue) (from to : Part) → Sound s → Grown (length s.made) (copied_part s from to)
grown_copied s from to h = grown_changed s to.id (pasted (composite s from.id) from.start from.len to.start)
    (composite s to.id) h (each_get (HoldsOf (length s.made)) s.made to.id h.0)
    (λ c f. holds_pasted (length s.made) (composite s from.id) from.start from.len to.start c
    (each_get (HoldsOf (length s.made)) s.made from.id h.0) f)

-- the values of entries are of a store of m composites
abbrev pub EntriesOf : ℕ → List (Key × Obj) → Type 0
EntriesOf m entries = Each (λ (e : Key × Obj). IsOf m e.1) entries

-- entries of a store with a value of it under one key more are of it
pub each_insert : (m : ℕ) (entries : List (Key × Obj)) (key : Key) (o : Obj) → EntriesOf m entries → IsOf m o →
    EntriesOf m (insert_entry same_key entries key o)
each_insert m [] key o h k = (k, tt)
each_insert m (e ∷ es) key o h k = by_test (EntriesOf m) (same_key key e.0) ((e.0, o) ∷ es)
    (e ∷ insert_entry same_key es key o)
    (λ f. (k, h.1)) (λ f. (h.0, each_insert m es key o h.1 k))

each_insert_all : (m : ℕ) (entries more : List (Key × Obj)) → EntriesOf m entries → EntriesOf m more →
    EntriesOf m (insert_all same_key entries more)
each_insert_all m entries [] h k = h
each_insert_all m entries (e ∷ es) h k =
    each_insert_all m (insert_entry same_key entries e.0 e.1) es (each_insert m entries e.0 e.1 h k.0) k.1

holds_entry : (m : ℕ) (c : Composite) (key : Key) (o : Obj) → HoldsOf m c → IsOf m o → HoldsOf m (with_entry c key o)
holds_entry m (DictOf entries) key o h k = each_insert m entries key o h k
holds_entry m c key o h k = h

grown_define : (s : StoreValue) (dict : ℕ) (key : Key) (o : Obj) (c : Option Composite) → Sound s →
    IsOf (length s.made) o → OfSome (HoldsOf (length s.made)) c →
    OfSome (Grown (length s.made)) (define_in s dict key o c)
grown_define s dict key o None h k f = (h, omega arith)
grown_define s dict key o (Some c) h k f =
    by_test (OfSome (Grown (length s.made))) (is_new_in c key) _
    (Some (record { made = slice_set s.made dict (with_entry c key o); units = s.units }))
    (λ e. by_test (OfSome (Grown (length s.made))) (is_full_of c) None _ (λ e. tt) (λ e.
    by_test (OfSome (Grown (length s.made))) (fits s 0 32)
    (Some (record { made = slice_set s.made dict (with_entry c key o); units = s.units + 32 })) None
    (λ e. grown_set s (s.units + 32) dict (with_entry c key o) h (holds_entry (length s.made) c key o f k)) (λ e. tt)))
    (λ e. grown_set s s.units dict (with_entry c key o) h (holds_entry (length s.made) c key o f k))

-- a store with a value of a key defined is sound, and has lost no composite
pub grown_defined : (s : StoreValue) (dict : ℕ) (key : Key) (o : Obj) → Sound s → IsOf (length s.made) o →
    OfSome (Grown (length s.made)) (defined s dict key o)
grown_defined s dict key o h k = grown_define s dict key o (composite s dict) h k
    (each_get (HoldsOf (length s.made)) s.made dict h.0)

holds_extended : (m : ℕ) (source : Option Composite) (free : ℕ) (c : Composite) → OfSome (HoldsOf m) source →
    HoldsOf m c → OfSome (λ (r : Composite × ℕ). HoldsOf m r.0) (extended source free c)
holds_extended m (Some (DictOf more)) free (DictOf entries) h k =
    by_test (OfSome (λ (r : Composite × ℕ). HoldsOf m r.0)) _ (Some (DictOf (insert_all same_key entries more), _)) None
    (λ e. each_insert_all m entries more k h) (λ e. tt)
holds_extended m source free c h k = k

grown_with_extended : (s : StoreValue) (dict : ℕ) (r : Option (Composite × ℕ)) → Sound s →
    OfSome (λ (r : Composite × ℕ). HoldsOf (length s.made) r.0) r →
    OfSome (Grown (length s.made)) (with_extended s dict r)
grown_with_extended s dict (Some r) h k = grown_set s (s.units + r.1) dict r.0 h k
grown_with_extended s dict None h k = tt

grown_extend : (s : StoreValue) (dict : ℕ) (source target : Option Composite) → Sound s →
    OfSome (HoldsOf (length s.made)) source → OfSome (HoldsOf (length s.made)) target →
    OfSome (Grown (length s.made)) (extend_in s dict source target)
grown_extend s dict source (Some c) h k f =
    grown_with_extended s dict (extended source (268435456 - s.units) c) h
    (holds_extended (length s.made) source (268435456 - s.units) c k f)
grown_extend s dict source None h k f = (h, omega arith)

-- a store with the entries of one dictionary in another is sound, and has lost no composite
pub grown_entries : (s : StoreValue) (from to : ℕ) → Sound s → OfSome (Grown (length s.made)) (copied_entries s from to)
grown_entries s from to h = by_test (OfSome (Grown (length s.made))) (from == to) (Some s) _ (λ e. (h, omega arith))
    (λ e. grown_extend s to (composite s from) (composite s to) h (each_get (HoldsOf (length s.made)) s.made from h.0)
    (each_get (HoldsOf (length s.made)) s.made to h.0))

-- a new composite, whose number is of the store
abbrev pub Made : ℕ → Part × StoreValue → Type 0
Made m made = Grown m made.1 × (made.0.id < length made.1.made)

made_composite : (s : StoreValue) (c : Composite) (len units : ℕ) → Sound s → HoldsOf (length s.made) c →
    OfSome (Made (length s.made)) (with_composite s c len units)
made_composite s c len units h k = by_test (OfSome (Made (length s.made))) (nat_le len 65535 && fits s 1 units)
    (Some (next_span s len, with_new s c units)) None
    (λ e. let g = grown_new s c units h k in ((g.0, omega arith), omega arith)) (λ e. tt)

-- a new string of zero bytes is of the store that it is made in
pub made_text : (s : StoreValue) (len : ℕ) → Sound s → OfSome (Made (length s.made)) (with_text s len)
made_text s len h = made_composite s (TextOf (replicate len 0)) len len h tt

-- a new string of bytes is of the store that it is made in
pub made_text_of : (s : StoreValue) (bytes : List ℕ) → Sound s → OfSome (Made (length s.made)) (with_text_of s bytes)
made_text_of s bytes h = made_composite s (TextOf bytes) (length bytes) (length bytes) h tt

-- a new array of nulls is of the store that it is made in
pub made_array : (s : StoreValue) (len : ℕ) → Sound s → OfSome (Made (length s.made)) (with_array s len)
made_array s len h = made_composite s (ArrayOf (replicate len Null)) len (16 * len) h
    (each_replicate (IsOf (length s.made)) len Null tt)

-- a new array of objects of the store is of the store that it is made in
pub made_array_of : (s : StoreValue) (items : List Obj) → Sound s → Each (IsOf (length s.made)) items →
    OfSome (Made (length s.made)) (with_array_of s items)
made_array_of s items h k = made_composite s (ArrayOf items) (length items) (16 * length items) h k

-- the store has lost none, and the dictionary's number is of it
abbrev pub MadeDict : ℕ → ℕ × StoreValue → Type 0
MadeDict m made = Grown m made.1 × (made.0 < length made.1.made)

-- a new empty dictionary is of the store that it is made in
pub made_dict : (s : StoreValue) → Sound s → OfSome (MadeDict (length s.made)) (with_dict s)
made_dict s h = by_test (OfSome (MadeDict (length s.made))) (fits s 1 0)
    (Some (length s.made, with_new s (DictOf []) 0)) None
    (λ e. let g = grown_new s (DictOf []) 0 h tt in ((g.0, omega arith), omega arith)) (λ e. tt)

-- a new dictionary of entries is of the store that it is made in
pub made_dict_of : (s : StoreValue) (entries : List (Key × Obj)) → Sound s → EntriesOf (length s.made) entries →
    OfSome (MadeDict (length s.made)) (with_dict_of s entries)
made_dict_of s entries h k = by_test (OfSome (MadeDict (length s.made))) (fits s 1 (32 * length entries))
    (Some (length s.made, with_new s (DictOf entries) (32 * length entries))) None
    (λ e. let g = grown_new s (DictOf entries) (32 * length entries) h k in ((g.0, omega arith), omega arith)) (λ e. tt)

is_item : (m : ℕ) (c : Option Composite) (i : ℕ) → OfSome (HoldsOf m) c → IsOf m (item c i)
is_item m (Some (TextOf bytes)) i h = tt
is_item m (Some (ArrayOf items)) i h = each_index (IsOf m) items i Null h tt
is_item m c i h = tt

-- what stands at a place of a sound store is of it
pub is_element : (s : StoreValue) (p : Part) (at : ℕ) → Sound s → IsOf (length s.made) (element s p at)
is_element s p at h = is_item (length s.made) (composite s p.id) (p.start + at)
    (each_get (HoldsOf (length s.made)) s.made p.id h.0)

are_entries : (m : ℕ) (c : Option Composite) → OfSome (HoldsOf m) c → EntriesOf m (entries_in c)
are_entries m (Some (DictOf entries)) h = h
are_entries m c h = tt

-- the values of a dictionary's entries are of the store
pub entries_are : (s : StoreValue) (dict : ℕ) → Sound s → EntriesOf (length s.made) (entries_of s dict)
entries_are s dict h = are_entries (length s.made) (composite s dict)
    (each_get (HoldsOf (length s.made)) s.made dict h.0)
