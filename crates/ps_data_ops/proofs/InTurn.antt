-- Keys and values in turn, as the operands above a mark.
use Rattle.std.proofs.Common.{◌≡◌, ◌≤◌, ◌<◌, ◌+◌, ◌-◌, ◌||◌, ℕ, zero, suc, Bool, true, false, List, [], ◌∷◌, length}
use Rattle.std.proofs.Common.{take, reverse, get_or, Some, ap, ◌∙◌, arith, subst, if◌then◌else◌}
use Rattle.std.specs.List.{slice_get}
use Rattle.std.proofs.lemmas.List.{reverse-append, take_more}
use Rattle.std.proofs.lemmas.Option.{get_or_from_slice_get, slice_get_within, slice_get-get_or}
use Rattle.indexmap.specs.IndexMap.{insert_entry}
use Rattle.ps_store.specs.declared.obj.Obj.{Obj}
use Rattle.ps_store.specs.declared.key.Key.{Key}
use Rattle.ps_store.specs.Store.{StoreValue}
use Rattle.ps_store.specs.KeyOf.{key_of}
use Rattle.ps_data_ops.specs.Dictionaries.{is_no_key, lacks_key, with_pair, and_then, entered}

-- the operand that was pushed first of so many
pub first_of : {X : Type 0} (stack : List X) (k : ℕ) (x : X) → slice_get stack k ≡ Some x →
    reverse (take (k + 1) stack) ≡ x ∷ reverse (take k stack)
first_of stack k x is =
    ap reverse (take_more stack k x (slice_get_within stack k x is))
    ∙ (reverse-append (take k stack) (get_or stack k x ∷ [])
    ∙ ap (λ y. y ∷ reverse (take k stack)) (get_or_from_slice_get stack k x x is))

-- the two that were pushed first
pub first_two : {X : Type 0} (stack : List X) (k : ℕ) (x y : X) → slice_get stack (k + 1) ≡ Some x →
    slice_get stack k ≡ Some y → reverse (take (k + 2) stack) ≡ x ∷ y ∷ reverse (take k stack)
first_two stack k x y first second =
    let on : k + 2 ≡ k + 1 + 1 = omega arith in
    ap (λ n. reverse (take n stack)) on ∙ (first_of stack (k + 1) x first
    ∙ ap (λ rest. x ∷ rest) (first_of stack k y second))

-- the next key and value are entered, and the rest in their turn
pub pair_entered : (s : StoreValue) (entries : List (Key × Obj)) (stack : List Obj) (k : ℕ) (key value : Obj) →
    slice_get stack (k + 1) ≡ Some key → slice_get stack k ≡ Some value
    → entered s entries (reverse (take (k + 2) stack))
    ≡ and_then (with_pair entries (key_of s key) value) (λ more. entered s more (reverse (take k stack)))
unfolding entered
pair_entered s entries stack k key value first second =
    ap (entered s entries) (first_two stack k key value first second)

-- a key that is put in adds at most one entry
pub length_more : (eq : Key → Key → Bool) (entries : List (Key × Obj)) (key : Key) (value : Obj) →
    length (insert_entry eq entries key value) ≤ length entries + 1
length_more eq [] key value = omega arith
length_more eq (e ∷ entries) key value =
    elim (eq key e.0) as (λ b. length (if b then (e.0, value) ∷ entries else e ∷ insert_entry eq entries key value)
    ≤ length (e ∷ entries) + 1)
    [ true ↦ omega arith | false ↦ omega (arith, length_more eq entries key value) ]

-- whether a key is lacking, from the operand that was pushed first
pub lacking : (s : StoreValue) (stack : List Obj) (left : ℕ) (key : Obj) → left ≤ length stack → 0 < left →
    slice_get stack (left - 1) ≡ Some key
    → lacks_key s (reverse (take left stack))
    ≡ (is_no_key (key_of s key) || lacks_key s (reverse (take (left - 2) stack)))
lacking s stack zero key held some is = absurd (omega arith)
lacking s stack (suc zero) key held some is =
    ap (lacks_key s) (first_of stack 0 key is) ∙ grind arith
lacking s stack (suc (suc k)) key held some is =
    let within : k < length stack = omega (arith, held) in
    let second : slice_get stack k ≡ Some (get_or stack k key) = slice_get-get_or stack k key within in
    let more : suc (suc k) ≡ k + 2 = omega arith in
    let place : suc (suc k) - 1 ≡ k + 1 = omega arith in
    let first : slice_get stack (k + 1) ≡ Some key = subst (λ (n : ℕ). slice_get stack n ≡ Some key) place is in
    let rest : k ≡ suc (suc k) - 2 = omega arith in
    ap (λ n. lacks_key s (reverse (take n stack))) more
    ∙ (ap (lacks_key s) (first_two stack k key (get_or stack k key) first second)
    ∙ ap (λ n. is_no_key (key_of s key) || lacks_key s (reverse (take n stack))) rest)
