-- Entries that more were defined in.
use Rattle.std.proofs.Common.{◌≡◌, ◌≤◌, ◌<◌, ◌+◌, ℕ, suc, Bool, true, false, cond, List, [], ◌∷◌, length, drop, Option}
use Rattle.std.proofs.Common.{Some, None, sym, ap, ◌∙◌, refl, arith}
use Rattle.std.specs.Prelude.{count_by, not, slice_get, IsNone}
use Rattle.std.specs.Map.{lookup}
use Rattle.std.specs.Option.{is_some}
use Rattle.std.proofs.lemmas.List.{drop_more}
use Rattle.std.proofs.lemmas.List.Sums.{sum_by-cons}
use Rattle.std.proofs.lemmas.Bool.{false≢true}
use Rattle.std.proofs.lemmas.Option.{slice_get_within, get_or_from_slice_get}
use mir.Val.{bool_byte}
use Rattle.indexmap.specs.IndexMap.{insert_entry, insert_all}
use Rattle.ps_store.specs.declared.key.Key.{Key}
use Rattle.ps_store.specs.declared.obj.Obj.{Obj}
use Rattle.ps_store.specs.Keys.{same_key}
use Rattle.ps_store.specs.Copying.{lacks}

-- one for a new key
abbrev one : Bool → ℕ
one b = cond b 1 0

-- a truth value as a byte is one for true
pub byte_one : (b : Bool) → bool_byte b ≡ one b
byte_one true = refl
byte_one false = refl

-- one for a new key is at most 1
pub at_most : (b : Bool) → one b ≤ 1
at_most true = omega arith
at_most false = omega arith

-- an entry more, where the key is new
length_entered : (es : List (Key × Obj)) (e : Key × Obj) →
    length (insert_entry same_key es e.0 e.1) ≡ length es + one (lacks es e)
length_entered [] e = refl
length_entered (d ∷ es) e =
    elim (same_key e.0 d.0) as (λ b. length (cond b ((d.0, e.1) ∷ es) (d ∷ insert_entry same_key es e.0 e.1))
    ≡ suc (length es) + one (not (is_some (cond b (Some d.1) (lookup (same_key e.0) es)))))
    [ true ↦ omega arith | false ↦ let more = length_entered es e in omega (arith, more) ]

-- what the old entries have, the new ones have
at_most_one : (b : Bool) (x : Option Obj) (y : Option Obj) → one (not (is_some x)) ≤ one (not (is_some y)) →
    (v w : Obj) → one (not (is_some (cond b (Some v) x))) ≤ one (not (is_some (cond b (Some w) y)))
at_most_one true x y h v w = omega arith
at_most_one false x y h v w = h

lacks_less : (es : List (Key × Obj)) (e d : Key × Obj) →
    one (lacks (insert_entry same_key es e.0 e.1) d) ≤ one (lacks es d)
lacks_less [] e d = elim (same_key d.0 e.0) as
    (λ b. one (not (is_some (cond b (Some e.1) None))) ≤ 1) [ true ↦ omega arith | false ↦ omega arith ]
lacks_less (f ∷ es) e d =
    elim (same_key e.0 f.0) as (λ b. one (lacks (cond b ((f.0, e.1) ∷ es) (f ∷ insert_entry same_key es e.0 e.1)) d)
    ≤ one (not (is_some (cond (same_key d.0 f.0) (Some f.1) (lookup (same_key d.0) es))))) [
      | true ↦ at_most_one (same_key d.0 f.0) (lookup (same_key d.0) es) (lookup (same_key d.0) es)
          (omega arith) e.1 f.1
      | false ↦ at_most_one (same_key d.0 f.0) (lookup (same_key d.0) (insert_entry same_key es e.0 e.1))
          (lookup (same_key d.0) es) (lacks_less es e d) f.1 f.1
    ]

count_less : (es : List (Key × Obj)) (e : Key × Obj) (more : List (Key × Obj)) →
    count_by (lacks (insert_entry same_key es e.0 e.1)) more ≤ count_by (lacks es) more
count_less es e [] = omega arith
count_less es e (d ∷ more) =
    let first = lacks_less es e d in
    let rest = count_less es e more in
    let before = sum_by-cons (λ x. one (lacks (insert_entry same_key es e.0 e.1) x)) d more in
    let after = sum_by-cons (λ x. one (lacks es x)) d more in
    omega (arith, first, rest, before, after)

-- the entry at a place comes next
pub next_entry : (xs : List (Key × Obj)) (i : ℕ) (e : Key × Obj) → slice_get xs i ≡ Some e →
    drop i xs ≡ e ∷ drop (i + 1) xs
next_entry xs i e is = drop_more xs i e (slice_get_within xs i e is)
    ∙ ap (λ d. d ∷ drop (i + 1) xs) (get_or_from_slice_get xs i e e is)

-- the count with the entry at a place apart
count_next : (es xs : List (Key × Obj)) (i : ℕ) (e : Key × Obj) → slice_get xs i ≡ Some e →
    count_by (lacks es) (drop i xs) ≡ one (lacks es e) + count_by (lacks es) (drop (i + 1) xs)
count_next es xs i e is = ap (count_by (lacks es)) (next_entry xs i e is)
    ∙ sum_by-cons (λ x. one (lacks es x)) e (drop (i + 1) xs)

-- one entry more is counted where its key is new
pub counted_more : (es xs : List (Key × Obj)) (i n total : ℕ) (e : Key × Obj) → slice_get xs i ≡ Some e →
    n + count_by (lacks es) (drop i xs) ≡ total → n + one (lacks es e) + count_by (lacks es) (drop (i + 1) xs) ≡ total
counted_more es xs i n total e is held =
    let next = count_next es xs i e is in
    omega (arith, held, next)

-- one entry more is entered, and the rest in their turn
pub entered_more : (es xs : List (Key × Obj)) (i : ℕ) (e : Key × Obj) (all : List (Key × Obj)) →
    slice_get xs i ≡ Some e → insert_all same_key es (drop i xs) ≡ all →
    insert_all same_key (insert_entry same_key es e.0 e.1) (drop (i + 1) xs) ≡ all
entered_more es xs i e all is held = sym (ap (insert_all same_key es) (next_entry xs i e is)) ∙ held

-- room for all new keys leaves room for those behind the next entry
pub room_left : (es xs : List (Key × Obj)) (i : ℕ) (e : Key × Obj) → slice_get xs i ≡ Some e →
    length es + count_by (lacks es) (drop i xs) ≤ 65535
    → length (insert_entry same_key es e.0 e.1) + count_by (lacks (insert_entry same_key es e.0 e.1)) (drop (i + 1) xs)
    ≤ 65535
room_left es xs i e is held =
    let next = count_next es xs i e is in
    let longer = length_entered es e in
    let fewer = count_less es e (drop (i + 1) xs) in
    omega (arith, held, next, longer, fewer)

none_is_one : (o : Option Obj) → IsNone o → one (not (is_some o)) ≡ 1
none_is_one None h = refl
none_is_one (Some x) h = absurd (false≢true (sym h))

-- room for all new keys is room for the next one, where it is new
pub room_for : (es xs : List (Key × Obj)) (i : ℕ) (e : Key × Obj) → slice_get xs i ≡ Some e →
    length es + count_by (lacks es) (drop i xs) ≤ 65535 → IsNone (lookup (same_key e.0) es) → length es < 65535
room_for es xs i e is held missing =
    let next = count_next es xs i e is in
    let here = none_is_one (lookup (same_key e.0) es) missing in
    omega (arith, held, next, here)

-- what the entries from a place on give, where the one at the place fails the test
pub skipped : (test : Key → Bool) (xs : List (Key × Obj)) (i : ℕ) (e : Key × Obj) (r : Option Obj) →
    slice_get xs i ≡ Some e → test e.0 ≡ false → lookup test (drop i xs) ≡ r → lookup test (drop (i + 1) xs) ≡ r
skipped test xs i e r is miss held =
    sym (ap (lookup test) (next_entry xs i e is)
    ∙ ap (λ b. cond b (Some e.1) (lookup test (drop (i + 1) xs))) miss) ∙ held

-- what they give, where the one at the place passes the test
pub met : (test : Key → Bool) (xs : List (Key × Obj)) (i : ℕ) (e : Key × Obj) (r : Option Obj) →
    slice_get xs i ≡ Some e → test e.0 ≡ true → lookup test (drop i xs) ≡ r → Some e.1 ≡ r
met test xs i e r is hit held =
    sym (ap (lookup test) (next_entry xs i e is)
    ∙ ap (λ b. cond b (Some e.1) (lookup test (drop (i + 1) xs))) hit) ∙ held

bounded : (o : Option Obj) (n m : ℕ) → n ≤ 65535 → (IsNone o → n < 65535) → m ≡ n + one (not (is_some o)) → m ≤ 65535
bounded None n m few room is = let more = room refl in omega (arith, is, more)
bounded (Some x) n m few room is = omega (arith, is, few)

-- an entry more is room for, where its key is new
pub few_still : (es : List (Key × Obj)) (k : Key) (v : Obj) → length es ≤ 65535 →
    (IsNone (lookup (same_key k) es) → length es < 65535) → length (insert_entry same_key es k v) ≤ 65535
few_still es k v few room =
    bounded (lookup (same_key k) es) (length es) (length (insert_entry same_key es k v)) few room
    (length_entered es (k, v))
