-- Marks of names, and what they tell of the entries of a dictionary.
use Rattle.std.proofs.Common.{◌≡◌, ◌<◌, ◌+◌, ◌*◌, ◌/◌, ◌%◌, ◌^◌, ℕ, Bool, true, false, cond, eqb, List, [], ◌∷◌, length}
use Rattle.std.proofs.Common.{get_or, set, Option, Some, None, refl, sym, ap, ◌∙◌, ⊎_elim, subst, arith, true≢false}
use Rattle.std.proofs.Common.{get_or-set_same, get_or-set_other, length-set}
use Rattle.std.specs.Int.{bit_at, w64}
use Rattle.std.specs.Int.RustNames.{bit_or}
use Rattle.std.specs.Map.{lookup}
use Rattle.std.specs.Cmp.Lexicographic.{bytes_decides}
use Rattle.std.specs.Str.{bytes_eq}
use Rattle.std.proofs.lemmas.Bool.{cases_eq, cases_Bool, eqb-true, eq-eqb, false_from_ne_true}
use Rattle.std.proofs.lemmas.Nat.Bits.{bit_at_set_same, bit_at_set_other}
use Rattle.std.proofs.lemmas.Option.{none-some}
use Rattle.indexmap.specs.IndexMap.{insert_entry}
use Rattle.ps_store.specs.declared.key.Key.{Key}
use Rattle.ps_store.specs.declared.key.Key.TheVariants.{Named, Integer, Real, Truth}
use Rattle.ps_store.specs.declared.obj.Obj.{Obj}
use Rattle.ps_store.specs.Keys.{same_key}
use Rattle.ps_store.specs.Code.Hashing.{hash_of}
use Rattle.ps_store.specs.Code.Marking.{marked, is_marked, marked_by}
use Rattle.std.specs.Prelude.{IsNone}
use Rattle.ps_store.specs.Code.Entering.{AreMarked, AreKept}
use Rattle.ps_store.proofs.Entered.{few_still}

-- the word and the bit of a mark
word_of : ℕ → ℕ
word_of hash = hash / 64 % 4

-- a word with one bit more has the bits that it had
bit_stays : (n k i : ℕ) → k < 64 → bit_at n i ≡ 1 → bit_at (bit_or n (1 * 2 ^ k % 2 ^ 64)) i ≡ 1
bit_stays n k i within h =
    ⊎_elim (λ same. ap (bit_at (bit_or n (1 * 2 ^ k % 2 ^ 64))) same ∙ bit_at_set_same w64 n k within)
    (λ other. bit_at_set_other w64 n k within i other ∙ h) (cases_eq i k)

-- a hash that is marked has its mark
marked_here : (words : List ℕ) (hash : ℕ) → length words ≡ 4 → is_marked (marked words hash) hash ≡ true
marked_here words hash size =
    let place = hash / 64 % 4 in
    let inside : place < length words = omega (arith, size) in
    let old = get_or words place 0 in
    let new = bit_or old (1 * 2 ^ (hash % 64) % 2 ^ 64) in
    eq-eqb (bit_at (get_or (set words place new) place 0) (hash % 64)) 1
    (ap (λ n. bit_at n (hash % 64)) (get_or-set_same words place new 0 inside)
    ∙ bit_at_set_same w64 old (hash % 64) (omega arith))

-- other marks stay
marked_still : (words : List ℕ) (hash other : ℕ) → length words ≡ 4 → is_marked words other ≡ true →
    is_marked (marked words hash) other ≡ true
marked_still words hash other size h =
    let place = hash / 64 % 4 in
    let inside : place < length words = omega (arith, size) in
    let old = get_or words place 0 in
    let new = bit_or old (1 * 2 ^ (hash % 64) % 2 ^ 64) in
    let there : bit_at (get_or words (other / 64 % 4) 0) (other % 64) ≡ 1 =
    eqb-true (bit_at (get_or words (other / 64 % 4) 0) (other % 64)) 1 h in
    eq-eqb (bit_at (get_or (set words place new) (other / 64 % 4) 0) (other % 64)) 1
    (⊎_elim
    (λ same. ap (λ w. bit_at (get_or (set words place new) w 0) (other % 64)) same
    ∙ (ap (λ n. bit_at n (other % 64)) (get_or-set_same words place new 0 inside)
    ∙ bit_stays old (hash % 64) (other % 64) (omega arith)
    (sym (ap (λ w. bit_at (get_or words w 0) (other % 64)) same) ∙ there)))
    (λ apart. ap (λ n. bit_at n (other % 64)) (get_or-set_other words place (other / 64 % 4) new 0 apart) ∙ there)
    (cases_eq (other / 64 % 4) place))

-- what isn't marked wasn't before
unmarked : (words : List ℕ) (hash other : ℕ) → length words ≡ 4 → is_marked (marked words hash) other ≡ false →
    is_marked words other ≡ false
unmarked words hash other size h =
    false_from_ne_true (is_marked words other)
    (λ e. true≢false (sym (marked_still words hash other size e) ∙ h))

missed : (b : Bool) (x : Obj) (rest : Option Obj) → cond b (Some x) rest ≡ None → (b ≡ false) × (rest ≡ None)
missed true x rest h = absurd (none-some x (sym h))
missed false x rest h = (refl, h)

-- a key that isn't there isn't there either once another one is defined
lookup_other : (es : List (Key × Obj)) (q k : Key) (v : Obj) → same_key q k ≡ false →
    lookup (same_key q) es ≡ None → lookup (same_key q) (insert_entry same_key es k v) ≡ None
lookup_other [] q k v other none = ap (λ b. cond b (Some v) None) other
lookup_other (e ∷ es) q k v other none =
    let parts = missed (same_key q e.0) e.1 (lookup (same_key q) es) none in
    elim (same_key k e.0) as
    (λ b. lookup (same_key q) (cond b ((e.0, v) ∷ es) (e ∷ insert_entry same_key es k v)) ≡ None) [
      | true ↦ ap (λ b. cond b (Some v) (lookup (same_key q) es)) parts.0 ∙ parts.1
      | false ↦ ap (λ b. cond b (Some e.1) (lookup (same_key q) (insert_entry same_key es k v))) parts.0
          ∙ lookup_other es q k v other parts.1
    ]

-- with a key more, and its mark, names without a mark still have no entry
marked_more : (words : List ℕ) (es : List (Key × Obj)) (k : Key) (v : Obj) → length words ≡ 4 →
    AreMarked words es → AreMarked (marked_by words k) (insert_entry same_key es k v)
marked_more words es (Named n) v size old name h =
    lookup_other es (Named name) (Named n) v
    (false_from_ne_true (bytes_eq name n)
    (λ e. true≢false (sym (ap (λ m. is_marked (marked words (hash_of n)) (hash_of m)) ((bytes_decides name n).0 e)
    ∙ marked_here words (hash_of n) size) ∙ h)))
    (old name (unmarked words (hash_of n) (hash_of name) size h))
marked_more words es (Integer n) v size old name h = lookup_other es (Named name) (Integer n) v refl (old name h)
marked_more words es (Real n) v size old name h = lookup_other es (Named name) (Real n) v refl (old name h)
marked_more words es (Truth b) v size old name h = lookup_other es (Named name) (Truth b) v refl (old name h)

-- the marks keep their number
size_marked : (words : List ℕ) (k : Key) → length (marked_by words k) ≡ length words
size_marked words (Named n) = length-set words (hash_of n / 64 % 4)
    (bit_or (get_or words (hash_of n / 64 % 4) 0) (1 * 2 ^ (hash_of n % 64) % 2 ^ 64))
size_marked words (Integer n) = refl
size_marked words (Real n) = refl
size_marked words (Truth b) = refl

-- with a key more, and its mark, the entries are still kept
pub kept_more : (words : List ℕ) (es : List (Key × Obj)) (k : Key) (v : Obj) → AreKept words es →
    (IsNone (lookup (same_key k) es) → length es < 65535) →
    AreKept (marked_by words k) (insert_entry same_key es k v)
kept_more words es k v kept room = record {
  few = few_still es k v kept.few room;
  size = size_marked words k ∙ kept.size;
  marked = marked_more words es k v kept.size kept.marked;
}
