-- Lists of entries: what is found after a change, and that keys and residencies stay distinct.
use Rattle.std.proofs.Common.{◌≡◌, ◌≢◌, inl, inr, ℕ, ◌+◌, ◌<◌, ◌≤◌, Bool, true, false, not, cond, ◌||◌, eqb, List, []}
use Rattle.std.proofs.Common.{◌∷◌, ◌++◌, map, length, Option, Some, None, option_map, option_to_list, refl, sym, ap}
use Rattle.std.proofs.Common.{subst, ◌∙◌, arith, filter, find}
use Rattle.std.specs.List.{list_any, list_all}
use Rattle.std.specs.Option.{option_or}
use Rattle.std.proofs.lemmas.Bool.{cases_eq, cases_Bool, or_parts, or_from, or_right, and_parts, eqb-true, eqb-false}
use Rattle.std.proofs.lemmas.Bool.{eq-eqb, ne_eqb, cond-true, cond-false}
use Rattle.std.proofs.lemmas.List.{map-append, append-nil}
use Rattle.std.proofs.lemmas.List.Sums.{length-filter, count_by-le-length}
use Rattle.std.proofs.lemmas.List.Folds.{find-append, list_any-append}
use Rattle.cache_core.specs.Lookup.{has_res, entry_of, ready_of}
use Rattle.cache_core.specs.Steps.{without, used_last, built}
use Rattle.cache_core.specs.Sound.{AreDistinct}
use Rattle.cache_core.specs.declared.step.Entry.{Entry}

-- what is found passes the test
pub find_passes : (p : Entry → Bool) (es : List Entry) (e : Entry) → find p es ≡ Some e → p e ≡ true
find_passes p [] e h = let k : None ≡ Some e = h in cc
find_passes p (x ∷ xs) e h =
    elim (cases_Bool (p x)) [
      | inl b ↦ (let k : Some x ≡ Some e = sym (cond-true (p x) (Some x) (find p xs) b) ∙ h in let y : x ≡ e = cc in
          ap p (sym y) ∙ b)
      | inr b ↦ find_passes p xs e (sym (cond-false (p x) (Some x) (find p xs) b) ∙ h)
    ]

-- the entry that is found of a residency has it
pub entry_has : (es : List Entry) (q : ℕ) (e : Entry) → entry_of es q ≡ Some e → e.res ≡ q
entry_has es q e h = eqb-true e.res q (find_passes (has_res q) es e h)

-- what is found passes a test that all pass, and fails one that none passes
pub all_find : (t p : Entry → Bool) (es : List Entry) (e : Entry) → list_all t es ≡ true → find p es ≡ Some e →
    t e ≡ true
all_find t p [] e a h = let k : None ≡ Some e = h in cc
all_find t p (x ∷ xs) e a h =
    let parts = and_parts (t x) (list_all t xs) a in
    elim (cases_Bool (p x)) [
      | inl b ↦ (let k : Some x ≡ Some e = sym (cond-true (p x) (Some x) (find p xs) b) ∙ h in let y : x ≡ e = cc in
          ap t (sym y) ∙ parts.0)
      | inr b ↦ all_find t p xs e parts.1 (sym (cond-false (p x) (Some x) (find p xs) b) ∙ h)
    ]

-- where no entry's number passes a test, that of an entry that is found fails it
pub none_find : (t : ℕ → Bool) (f : Entry → ℕ) (p : Entry → Bool) (es : List Entry) (e : Entry) →
    list_any t (map f es) ≡ false → find p es ≡ Some e → t (f e) ≡ false
none_find t f p [] e a h = let k : None ≡ Some e = h in cc
none_find t f p (x ∷ xs) e a h =
    let parts = or_parts (t (f x)) (list_any t (map f xs)) a in
    elim (cases_Bool (p x)) [
      | inl b ↦ (let k : Some x ≡ Some e = sym (cond-true (p x) (Some x) (find p xs) b) ∙ h in let y : x ≡ e = cc in
          ap (λ (v : Entry). t (f v)) (sym y) ∙ parts.0)
      | inr b ↦ none_find t f p xs e parts.1 (sym (cond-false (p x) (Some x) (find p xs) b) ∙ h)
    ]

-- a number that is unequal to another is so the other way round
pub other_way : (m n : ℕ) → eqb m n ≡ false → eqb n m ≡ false
other_way m n h = ne_eqb n m (λ e. eqb-false m n h (sym e))

-- an entry that is found by any test is the entry of its residency
pub entry_in : (p : Entry → Bool) (es : List Entry) (e : Entry) → AreDistinct (map (λ (v : Entry). v.res) es) →
    find p es ≡ Some e → entry_of es e.res ≡ Some e
entry_in p [] e d h = let k : None ≡ Some e = h in cc
entry_in p (x ∷ xs) e d h =
    elim (cases_Bool (p x)) [
      | inl b ↦ (let k : Some x ≡ Some e = sym (cond-true (p x) (Some x) (find p xs) b) ∙ h in let y : x ≡ e = cc in
          cond-true (eqb x.res e.res) (Some x) (find (has_res e.res) xs)
          (eq-eqb x.res e.res (ap (λ (v : Entry). v.res) y)) ∙ k)
      | inr b ↦ (let k : find p xs ≡ Some e = sym (cond-false (p x) (Some x) (find p xs) b) ∙ h in
          cond-false (eqb x.res e.res) (Some x) (find (has_res e.res) xs)
          (other_way e.res x.res (none_find (λ m. eqb m x.res) (λ (v : Entry). v.res) p xs e d.0 k))
          ∙ entry_in p xs e d.1 k)
    ]

-- without an entry
pub without_here : (r : ℕ) (es : List Entry) → entry_of (without r es) r ≡ None
without_here r [] = refl
without_here r (x ∷ xs) =
    elim (cases_Bool (eqb x.res r)) [ inl b ↦ (rw b (without_here r xs)) | inr b ↦ (rw (b, b) (without_here r xs)) ]

-- to take an entry away leaves those of other residencies
pub without_else : (r q : ℕ) (es : List Entry) → q ≢ r → entry_of (without r es) q ≡ entry_of es q
without_else r q [] n = refl
without_else r q (x ∷ xs) n =
    elim (cases_Bool (eqb x.res r)) [
      | inl b ↦ (let k : eqb x.res q ≡ false = ne_eqb x.res q (λ e. n (sym e ∙ eqb-true x.res r b)) in
          rw (b, k) (without_else r q xs n))
      | inr b ↦ (rw b (ap (cond (eqb x.res q) (Some x)) (without_else r q xs n)))
    ]

-- after a build
pub entry_built : (r q : ℕ) (es : List Entry) → entry_of (map (built r) es) q ≡ option_map (built r) (entry_of es q)
entry_built r q [] = refl
entry_built r q (x ∷ xs) =
    elim (cases_Bool (eqb x.res q)) [ inl b ↦ (rw b refl) | inr b ↦ (rw b (entry_built r q xs)) ]

or_false : (b : Bool) → (b || false) ≡ b
or_false true = refl
or_false false = refl

ready_from : (r q : ℕ) (o : Option Entry) → ((e : Entry) → o ≡ Some e → e.res ≡ q) → q ≢ r →
    option_map (λ (e : Entry). e.ready) (option_map (built r) o) ≡ option_map (λ (e : Entry). e.ready) o
ready_from r q None h n = refl
ready_from r q (Some e) h n =
    let k : eqb e.res r ≡ false = ne_eqb e.res r (λ u. n (sym (h e refl) ∙ u)) in
    ap Some (ap (λ (b : Bool). e.ready || b) k ∙ or_false e.ready)

-- to mark an entry as ready leaves whether those of other residencies are
pub ready_built_else : (r q : ℕ) (es : List Entry) → q ≢ r → ready_of (map (built r) es) q ≡ ready_of es q
ready_built_else r q es n =
    ap (option_map (λ (e : Entry). e.ready)) (entry_built r q es) ∙ ready_from r q (entry_of es q) (entry_has es q) n

ready_at : (r : ℕ) (b : Bool) (o : Option Entry) → ((e : Entry) → o ≡ Some e → e.res ≡ r) →
    option_map (λ (e : Entry). e.ready) o ≡ Some b →
    option_map (λ (e : Entry). e.ready) (option_map (built r) o) ≡ Some true
ready_at r b None h k = let v : None ≡ Some b = k in cc
ready_at r b (Some e) h k = ap Some (or_right e.ready (eqb e.res r) (eq-eqb e.res r (h e refl)))

-- an entry that is there is ready once it was marked so
pub ready_built_here : (r : ℕ) (b : Bool) (es : List Entry) → ready_of es r ≡ Some b →
    ready_of (map (built r) es) r ≡ Some true
ready_built_here r b es h =
    ap (option_map (λ (e : Entry). e.ready)) (entry_built r r es) ∙ ready_at r b (entry_of es r) (entry_has es r) h

-- with one more entry
or_none : (o : Option Entry) → option_or o None ≡ o
or_none None = refl
or_none (Some e) = refl

-- an entry that is added at the end is that of its residency, if none was before
pub push_here : (es : List Entry) (e : Entry) → entry_of es e.res ≡ None → entry_of (es ++ e ∷ []) e.res ≡ Some e
push_here es e h =
    find-append (has_res e.res) es (e ∷ []) ∙
    (ap (λ (o : Option Entry). option_or o (find (has_res e.res) (e ∷ []))) h
    ∙ cond-true (eqb e.res e.res) (Some e) None (eq-eqb e.res e.res refl))

-- an entry that is added at the end leaves those of other residencies
pub push_else : (es : List Entry) (e : Entry) (q : ℕ) → q ≢ e.res → entry_of (es ++ e ∷ []) q ≡ entry_of es q
push_else es e q n =
    find-append (has_res q) es (e ∷ []) ∙ (ap (option_or (entry_of es q))
    (cond-false (eqb e.res q) (Some e) None (ne_eqb e.res q (λ u. n (sym u)))) ∙ or_none (entry_of es q))

-- with an entry moved to the end
list_here : (r : ℕ) (o : Option Entry) → ((e : Entry) → o ≡ Some e → e.res ≡ r) →
    find (has_res r) (option_to_list o) ≡ o
list_here r None h = refl
list_here r (Some e) h = cond-true (eqb e.res r) (Some e) None (eq-eqb e.res r (h e refl))

list_else : (r q : ℕ) (o : Option Entry) → ((e : Entry) → o ≡ Some e → e.res ≡ r) → q ≢ r →
    find (has_res q) (option_to_list o) ≡ None
list_else r q None h n = refl
list_else r q (Some e) h n =
    cond-false (eqb e.res q) (Some e) None (ne_eqb e.res q (λ u. n (sym u ∙ h e refl)))

-- to move an entry to the end leaves the entry of each residency
pub entry_used : (r q : ℕ) (es : List Entry) → entry_of (used_last r es) q ≡ entry_of es q
entry_used r q es =
    find-append (has_res q) (without r es) (option_to_list (entry_of es r))
    ∙ elim (cases_eq q r) [
      | inl e ↦ subst (λ (k : ℕ). option_or (entry_of (without r es) k)
          (find (has_res k) (option_to_list (entry_of es r))) ≡ entry_of es k) (sym e)
          (ap (λ (o : Option Entry). option_or o (find (has_res r) (option_to_list (entry_of es r))))
          (without_here r es) ∙ list_here r (entry_of es r) (entry_has es r))
      | inr n ↦ ap (option_or (entry_of (without r es) q)) (list_else r q (entry_of es r) (entry_has es r) n)
          ∙ (or_none (entry_of (without r es) q) ∙ without_else r q es n)
    ]

-- distinct numbers
pub any_filter : (t : ℕ → Bool) (f : Entry → ℕ) (p : Entry → Bool) (es : List Entry) → list_any t (map f es) ≡ false →
    list_any t (map f (filter p es)) ≡ false
any_filter t f p [] h = refl
any_filter t f p (x ∷ xs) h =
    let parts = or_parts (t (f x)) (list_any t (map f xs)) h in
    elim (cases_Bool (p x)) [
      | inl b ↦ (rw b (or_from (t (f x)) (list_any t (map f (filter p xs))) parts.0
          (any_filter t f p xs parts.1)))
      | inr b ↦ (rw b (any_filter t f p xs parts.1))
    ]

-- numbers of entries that are distinct stay so where only some entries are kept
pub distinct_filter : (f : Entry → ℕ) (p : Entry → Bool) (es : List Entry) → AreDistinct (map f es) →
    AreDistinct (map f (filter p es))
distinct_filter f p [] d = tt
distinct_filter f p (x ∷ xs) d =
    elim (cases_Bool (p x)) [
      | inl b ↦ (rw b (any_filter (λ m. eqb m (f x)) f p xs d.0, distinct_filter f p xs d.1))
      | inr b ↦ (rw b (distinct_filter f p xs d.1))
    ]

-- distinct numbers stay so with one more at the end that isn't among them
pub distinct_push : (ns : List ℕ) (n : ℕ) → AreDistinct ns → list_any (λ m. eqb m n) ns ≡ false →
    AreDistinct (ns ++ n ∷ [])
distinct_push [] n d h = (refl, tt)
distinct_push (m ∷ ns) n d h =
    let parts = or_parts (eqb m n) (list_any (λ k. eqb k n) ns) h in (
      list_any-append (λ k. eqb k m) ns (n ∷ [])
          ∙ or_from (list_any (λ k. eqb k m) ns) (eqb n m || false) d.0 (or_false (eqb n m) ∙ other_way m n parts.0),
      distinct_push ns n d.1 parts.1,
    )

-- numbers of entries that don't depend on being ready stay when an entry is marked as ready
pub map_built : (f : Entry → ℕ) (r : ℕ) → ((e : Entry) → f (built r e) ≡ f e) → (es : List Entry) →
    map f (map (built r) es) ≡ map f es
map_built f r same [] = refl
map_built f r same (x ∷ xs) = ap (λ (n : ℕ). n ∷ map f (map (built r) xs)) (same x)
    ∙ ap (λ (ns : List ℕ). f x ∷ ns) (map_built f r same xs)

-- the entry that goes has no number of those that stay
pub gone : (f : Entry → ℕ) (r : ℕ) (es : List Entry) (e : Entry) → AreDistinct (map f es) → entry_of es r ≡ Some e →
    list_any (λ m. eqb m (f e)) (map f (without r es)) ≡ false
gone f r [] e d h = refl
gone f r (x ∷ xs) e d h =
    elim (cases_Bool (eqb x.res r)) [
      | inl b ↦ (let k : Some x ≡ Some e = sym (cond-true (eqb x.res r) (Some x) (find (has_res r) xs) b) ∙ h in
          let y : x ≡ e = cc in rw (b, ← y) (any_filter (λ m. eqb m (f x)) f (λ v. not (has_res r v)) xs d.0))
      | inr b ↦ (let k : entry_of xs r ≡ Some e = sym (cond-false (eqb x.res r) (Some x) (find (has_res r) xs) b) ∙ h in
          rw b (or_from (eqb (f x) (f e)) (list_any (λ m. eqb m (f e)) (map f (without r xs)))
          (other_way (f e) (f x) (none_find (λ m. eqb m (f x)) f (has_res r) xs e d.0 k)) (gone f r xs e d.1 k)))
    ]

used_from : (f : Entry → ℕ) (r : ℕ) (es : List Entry) (o : Option Entry) → entry_of es r ≡ o → AreDistinct (map f es) →
    AreDistinct (map f (without r es ++ option_to_list o))
used_from f r es None h d = subst (λ (zs : List Entry). AreDistinct (map f zs)) (sym (append-nil (without r es)))
    (distinct_filter f (λ e. not (has_res r e)) es d)
used_from f r es (Some e) h d =
    subst AreDistinct (sym (map-append f (without r es) (e ∷ [])))
    (distinct_push (map f (without r es)) (f e) (distinct_filter f (λ v. not (has_res r v)) es d)
    (gone f r es e d h))

-- numbers of entries that are distinct stay so when an entry moves to the end
pub distinct_used : (f : Entry → ℕ) (r : ℕ) (es : List Entry) → AreDistinct (map f es) →
    AreDistinct (map f (used_last r es))
distinct_used f r es d = used_from f r es (entry_of es r) refl d

-- a key without an entry, and a residency without one, are no numbers of the entries
pub any_map : (t : ℕ → Bool) (f : Entry → ℕ) (es : List Entry) → list_any t (map f es) ≡ list_any (λ e. t (f e)) es
any_map t f [] = refl
any_map t f (x ∷ xs) = ap (λ (b : Bool). t (f x) || b) (any_map t f xs)

-- a residency of no entry isn't among the residencies of the entries
pub none_any : (r : ℕ) (es : List Entry) → entry_of es r ≡ None →
    list_any (λ m. eqb m r) (map (λ (e : Entry). e.res) es) ≡ false
none_any r [] h = refl
none_any r (x ∷ xs) h =
    elim (cases_Bool (eqb x.res r)) [
      | inl b ↦ (let k : Some x ≡ None = sym (cond-true (eqb x.res r) (Some x) (find (has_res r) xs) b) ∙ h in cc)
      | inr b ↦ or_from (eqb x.res r) (list_any (λ m. eqb m r) (map (λ (e : Entry). e.res) xs)) b
          (none_any r xs (sym (cond-false (eqb x.res r) (Some x) (find (has_res r) xs) b) ∙ h))
    ]

-- how many entries are left
pub without_none : (r : ℕ) (es : List Entry) → list_any (λ m. eqb m r) (map (λ (e : Entry). e.res) es) ≡ false →
    without r es ≡ es
without_none r [] h = refl
without_none r (x ∷ xs) h =
    let parts = or_parts (eqb x.res r) (list_any (λ m. eqb m r) (map (λ (e : Entry). e.res) xs)) h in
    let b : eqb x.res r ≡ false = parts.0 in
    rw b (ap (λ (es : List Entry). x ∷ es) (without_none r xs parts.1))

-- where residencies are distinct, the entries without one that is there are one less
pub one_less : (r : ℕ) (es : List Entry) (e : Entry) → AreDistinct (map (λ (v : Entry). v.res) es) →
    entry_of es r ≡ Some e → length (without r es) + 1 ≡ length es
one_less r [] e d h = let k : None ≡ Some e = h in cc
one_less r (x ∷ xs) e d h =
    elim (cases_Bool (eqb x.res r)) [
      | inl b ↦ (let none : list_any (λ m. eqb m r) (map (λ (v : Entry). v.res) xs) ≡ false =
          subst (λ (k : ℕ). list_any (λ m. eqb m k) (map (λ (v : Entry). v.res) xs) ≡ false) (eqb-true x.res r b) d.0 in
          let same : length (without r xs) ≡ length xs = ap length (without_none r xs none) in rw b (omega arith))
      | inr b ↦ (let k : length (without r xs) + 1 ≡ length xs =
          one_less r xs e d.1 (sym (cond-false (eqb x.res r) (Some x) (find (has_res r) xs) b) ∙ h) in
          rw b (omega arith))
    ]

-- the entries that pass a test are at most as many as all
pub length_filter : (p : Entry → Bool) (es : List Entry) → length (filter p es) ≤ length es
length_filter p es = omega (arith, length-filter p es, count_by-le-length p es)

-- at least one goes, whatever the residencies are
pub shorter : (r : ℕ) (es : List Entry) (e : Entry) → entry_of es r ≡ Some e → length (without r es) < length es
shorter r [] e h = let k : None ≡ Some e = h in cc
shorter r (x ∷ xs) e h =
    elim (cases_Bool (eqb x.res r)) [
      | inl b ↦ (let k : length (without r xs) ≤ length xs = length_filter (λ v. not (has_res r v)) xs in
          rw b (omega arith))
      | inr b ↦ (let k : length (without r xs) < length xs =
          shorter r xs e (sym (cond-false (eqb x.res r) (Some x) (find (has_res r) xs) b) ∙ h) in rw b (omega arith))
    ]
