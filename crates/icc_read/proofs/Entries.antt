-- The entries of a tag table, one after another.
use Rattle.std.proofs.Common.{◌≡◌, ◌≢◌, ◌≤◌, ◌<◌, ◌+◌, ◌-◌, ℕ, suc, Bool, false, List, [], ◌∷◌, map, arith, ap, refl}
use Rattle.std.proofs.Common.{Some, None, sym, true, ◌∙◌}
use Rattle.std.specs.Prelude.{◌==◌, ◌||◌}
use Rattle.std.specs.List.{range_with_len, list_any, find}
use Rattle.std.proofs.lemmas.Bool.{eq-eqb, ne_eqb}
use Rattle.icc_power.proofs.Shapes.{or_first, or_second}
use Rattle.icc_read.specs.Table.{EntryValue, entry_at, entries_of, entry_of, tag_count, size_field}
use Rattle.icc_read.specs.Faults.{has_tag_outside, is_outside}

-- the entries from one on
unfoldable pub entries_from : List ℕ → ℕ → List EntryValue
entries_from bytes k = map (entry_at bytes) (range_with_len k (tag_count bytes - k))

-- whether an entry has a signature
abbrev pub is_named : ℕ → EntryValue → Bool
is_named signature entry = entry.signature == signature

-- from the first on they are all
pub all_entries : (bytes : List ℕ) → entries_from bytes 0 ≡ entries_of bytes
unfolding entries_from
all_entries bytes =
    let e : tag_count bytes - 0 ≡ tag_count bytes = omega arith in
    ap (λ n. map (entry_at bytes) (range_with_len 0 n)) e

-- one, and those after it
pub next_entry : (bytes : List ℕ) (k : ℕ) → k < tag_count bytes →
    entries_from bytes k ≡ entry_at bytes k ∷ entries_from bytes (k + 1)
unfolding entries_from
next_entry bytes k h =
    let e : tag_count bytes - k ≡ suc (tag_count bytes - (k + 1)) = omega (arith, h) in
    ap (λ n. map (entry_at bytes) (range_with_len k n)) e

-- past the last there is none
pub no_entry : (bytes : List ℕ) (k : ℕ) → tag_count bytes ≤ k → entries_from bytes k ≡ []
unfolding entries_from
no_entry bytes k h =
    let e : tag_count bytes - k ≡ 0 = omega (arith, h) in
    ap (λ n. map (entry_at bytes) (range_with_len k n)) e

-- the first of them that has the signature
pub found_here : (bytes : List ℕ) (signature k : ℕ) → k < tag_count bytes →
    (entry_at bytes k).signature ≡ signature →
    find (is_named signature) (entries_from bytes k) ≡ Some (entry_at bytes k)
found_here bytes signature k h e =
    rw (next_entry bytes k h, eq-eqb (entry_at bytes k).signature signature e) refl

-- one that has another
pub found_later : (bytes : List ℕ) (signature k : ℕ) → k < tag_count bytes →
    (entry_at bytes k).signature ≢ signature →
    find (is_named signature) (entries_from bytes k) ≡ find (is_named signature) (entries_from bytes (k + 1))
found_later bytes signature k h e =
    rw (next_entry bytes k h, ne_eqb (entry_at bytes k).signature signature e) refl

-- none is left
pub found_none : (bytes : List ℕ) (signature k : ℕ) → tag_count bytes ≤ k →
    find (is_named signature) (entries_from bytes k) ≡ None
found_none bytes signature k h = ap (find (is_named signature)) (no_entry bytes k h)

-- a test of one, and of those after it
pub any_next : (test : EntryValue → Bool) (bytes : List ℕ) (k : ℕ) → k < tag_count bytes →
    list_any test (entries_from bytes k) ≡ (test (entry_at bytes k) || list_any test (entries_from bytes (k + 1)))
any_next test bytes k h = ap (list_any test) (next_entry bytes k h)

-- none is left that could pass it
pub any_none : (test : EntryValue → Bool) (bytes : List ℕ) (k : ℕ) → tag_count bytes ≤ k →
    list_any test (entries_from bytes k) ≡ false
any_none test bytes k h = ap (list_any test) (no_entry bytes k h)

-- the entry of a signature is the first of all that has it
pub found_first : (bytes : List ℕ) (signature : ℕ) →
    entry_of bytes signature ≡ find (is_named signature) (entries_from bytes 0)
unfolding entry_of
found_first bytes signature = ap (find (is_named signature)) (sym (all_entries bytes))

-- it is one that is found, where the entries before it have other signatures
pub found_now : (bytes : List ℕ) (signature k : ℕ) (entry : EntryValue) → k < tag_count bytes →
    entry ≡ entry_at bytes k → entry.signature ≡ signature →
    entry_of bytes signature ≡ find (is_named signature) (entries_from bytes k) → Some entry ≡ entry_of bytes signature
found_now bytes signature k entry h is named left =
    ap (λ (e : EntryValue). Some e) is
    ∙ sym (found_here bytes signature k h (sym (ap (λ (e : EntryValue). e.signature) is) ∙ named)) ∙ sym left

-- else it is one of those after it
pub found_next : (bytes : List ℕ) (signature k : ℕ) (entry : EntryValue) → k < tag_count bytes →
    entry ≡ entry_at bytes k → entry.signature ≢ signature →
    entry_of bytes signature ≡ find (is_named signature) (entries_from bytes k) →
    entry_of bytes signature ≡ find (is_named signature) (entries_from bytes (k + 1))
found_next bytes signature k entry h is other left =
    left ∙ found_later bytes signature k h (λ e. other (ap (λ (e : EntryValue). e.signature) is ∙ e))

-- and none, where none is left
pub found_nowhere : (bytes : List ℕ) (signature k : ℕ) → tag_count bytes ≤ k →
    entry_of bytes signature ≡ find (is_named signature) (entries_from bytes k) → None ≡ entry_of bytes signature
found_nowhere bytes signature k h left = sym (left ∙ found_none bytes signature k h)

-- a tag lies outside where one of all does
pub outside_first : (bytes : List ℕ) →
    has_tag_outside bytes ≡ list_any (is_outside (size_field bytes)) (entries_from bytes 0)
unfolding has_tag_outside
outside_first bytes = ap (list_any (is_outside (size_field bytes))) (sym (all_entries bytes))

-- where none of those that are left lies outside, the next doesn't
pub inside_now : (bytes : List ℕ) (k : ℕ) (entry : EntryValue) → k < tag_count bytes → entry ≡ entry_at bytes k →
    list_any (is_outside (size_field bytes)) (entries_from bytes k) ≡ false →
    is_outside (size_field bytes) entry ≡ false
inside_now bytes k entry h is none =
    let test = is_outside (size_field bytes) in
    ap test is ∙ or_first (test (entry_at bytes k)) (list_any test (entries_from bytes (k + 1)))
    (sym (any_next test bytes k h) ∙ none)

-- nor does one after it
pub inside_next : (bytes : List ℕ) (k : ℕ) → k < tag_count bytes →
    list_any (is_outside (size_field bytes)) (entries_from bytes k) ≡ false →
    list_any (is_outside (size_field bytes)) (entries_from bytes (k + 1)) ≡ false
inside_next bytes k h none =
    let test = is_outside (size_field bytes) in
    or_second (test (entry_at bytes k)) (list_any test (entries_from bytes (k + 1)))
    (sym (any_next test bytes k h) ∙ none)

-- the next one, as it was read
same_test : (bytes : List ℕ) (size k : ℕ) (entry : EntryValue) (b : Bool) → size ≡ size_field bytes →
    entry ≡ entry_at bytes k → b ≡ is_outside size entry → is_outside (size_field bytes) (entry_at bytes k) ≡ b
same_test bytes size k entry b size_is is out =
    sym (out ∙ ap (λ (s : ℕ). is_outside s entry) size_is ∙ ap (is_outside (size_field bytes)) is)

-- where it lies outside, one does
pub outside_now : (bytes : List ℕ) (size k : ℕ) (entry : EntryValue) → k < tag_count bytes → size ≡ size_field bytes →
    entry ≡ entry_at bytes k → true ≡ is_outside size entry →
    has_tag_outside bytes ≡ list_any (is_outside (size_field bytes)) (entries_from bytes k) →
    true ≡ has_tag_outside bytes
outside_now bytes size k entry h size_is is out left =
    let test = is_outside (size_field bytes) in
    sym (left ∙ any_next test bytes k h
    ∙ ap (λ (b : Bool). b || list_any test (entries_from bytes (k + 1)))
    (same_test bytes size k entry true size_is is out))

-- where it doesn't, one of those after it has to
pub outside_next : (bytes : List ℕ) (size k : ℕ) (entry : EntryValue) → k < tag_count bytes → size ≡ size_field bytes →
    entry ≡ entry_at bytes k → false ≡ is_outside size entry →
    has_tag_outside bytes ≡ list_any (is_outside (size_field bytes)) (entries_from bytes k) →
    has_tag_outside bytes ≡ list_any (is_outside (size_field bytes)) (entries_from bytes (k + 1))
outside_next bytes size k entry h size_is is out left =
    let test = is_outside (size_field bytes) in
    left ∙ any_next test bytes k h
    ∙ ap (λ (b : Bool). b || list_any test (entries_from bytes (k + 1)))
    (same_test bytes size k entry false size_is is out)

-- and none does, where none is left
pub outside_nowhere : (bytes : List ℕ) (k : ℕ) → tag_count bytes ≤ k →
    has_tag_outside bytes ≡ list_any (is_outside (size_field bytes)) (entries_from bytes k) →
    false ≡ has_tag_outside bytes
outside_nowhere bytes k h left = sym (left ∙ any_none (is_outside (size_field bytes)) bytes k h)
