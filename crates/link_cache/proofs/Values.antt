-- The values stay those of the entries.
use Rattle.std.proofs.Common.{◌≡◌, ◌≢◌, inl, inr, ℕ, zero, suc, ◌<◌, Bool, true, false, cond, ◌||◌, eqb, List, [], ◌∷◌}
use Rattle.std.proofs.Common.{◌++◌, map, length, get_or, Option, Some, None, option_map, is_some, refl, sym, ap, subst}
use Rattle.std.proofs.Common.{◌∙◌, arith, find}
use Rattle.std.specs.List.{list_any, position_or_len, slice_get}
use Rattle.std.specs.List.{IsDistinct, AllByRecursion}
use Rattle.std.specs.Option.{option_or}
use Rattle.std.proofs.lemmas.Bool.{cases_eq, cases_Bool, or_cases, or_parts, eqb-true, eq-eqb, ne_eqb, cond-true}
use Rattle.std.proofs.lemmas.Bool.{cond-false}
use Rattle.std.proofs.lemmas.List.{length_push, length-map}
use Rattle.std.proofs.lemmas.List.Folds.{find-append, find_at, find-set, find_past}
use Rattle.std.proofs.lemmas.List.Sums.{passes_at_first}
use Rattle.std.proofs.lemmas.Map.Steps.{length-le_from_distinct_below}
use Rattle.cache_core.specs.Lookup.{has_key, entry_of}
use Rattle.cache_core.specs.Steps.{without, built}
use Rattle.cache_core.specs.Sound.{AreDistinct}
use Rattle.cache_core.specs.declared.step.Entry.{Entry}
use Rattle.cache_core.proofs.Entries.{find_passes, entry_has, entry_in, without_here, without_else, entry_built}
use Rattle.cache_core.proofs.Entries.{push_here, push_else, any_map, other_way}
use Rattle.link_cache.specs.Kept.{SlotValue, is_slot_of, slot_of, mark_in, without_slot, filled, AreValues}

-- the place of a residency after a change of the places
place_gone : (r : ℕ) (ps : List SlotValue) → slot_of (without_slot r ps) r ≡ None
place_gone r [] = refl
place_gone r (x ∷ xs) =
    elim (cases_Bool (eqb x.res r)) [ inl b ↦ (rw b (place_gone r xs)) | inr b ↦ (rw (b, b) (place_gone r xs)) ]

place_stays : (r q : ℕ) (ps : List SlotValue) → q ≢ r → slot_of (without_slot r ps) q ≡ slot_of ps q
place_stays r q [] n = refl
place_stays r q (x ∷ xs) n =
    elim (cases_Bool (eqb x.res r)) [
      | inl b ↦ (let k : eqb x.res q ≡ false = ne_eqb x.res q (λ e. n (sym e ∙ eqb-true x.res r b)) in
          rw (b, k) (place_stays r q xs n))
      | inr b ↦ (rw b (ap (cond (eqb x.res q) (Some x)) (place_stays r q xs n)))
    ]

or_none : (o : Option SlotValue) → option_or o None ≡ o
or_none None = refl
or_none (Some p) = refl

place_push_else : (ps : List SlotValue) (p : SlotValue) (q : ℕ) → q ≢ p.res → slot_of (ps ++ p ∷ []) q ≡ slot_of ps q
place_push_else ps p q n =
    find-append (is_slot_of q) ps (p ∷ []) ∙
    (ap (option_or (slot_of ps q)) (cond-false (eqb p.res q) (Some p) None (ne_eqb p.res q (λ u. n (sym u))))
    ∙ or_none (slot_of ps q))

some_or : (o : Option SlotValue) (p : SlotValue) → is_some (option_or o (Some p)) ≡ true
some_or None p = refl
some_or (Some x) p = refl

place_push_here : (ps : List SlotValue) (p : SlotValue) → is_some (slot_of (ps ++ p ∷ []) p.res) ≡ true
place_push_here ps p =
    ap (λ (o : Option SlotValue). is_some o)
    (find-append (is_slot_of p.res) ps (p ∷ [])
    ∙ ap (option_or (slot_of ps p.res)) (cond-true (eqb p.res p.res) (Some p) None (eq-eqb p.res p.res refl)))
    ∙ some_or (slot_of ps p.res) p

get_within : (ps : List SlotValue) (i : ℕ) → is_some (slice_get ps i) ≡ true → i < length ps
get_within [] i h = let k : false ≡ true = h in cc
get_within (x ∷ xs) zero h = omega arith
get_within (x ∷ xs) (suc i) h = let k = get_within xs i h in omega (arith, k)

first_within : (r : ℕ) (ps : List SlotValue) → is_some (slot_of ps r) ≡ true →
    position_or_len (is_slot_of r) ps < length ps
first_within r ps h =
    get_within ps (position_or_len (is_slot_of r) ps)
    (ap (λ (o : Option SlotValue). is_some o) (sym (find_at (is_slot_of r) ps)) ∙ h)

filled_here : (r : ℕ) (m : List ℕ) (ps : List SlotValue) → is_some (slot_of ps r) ≡ true →
    slot_of (filled r m ps) r ≡ Some (record { res = r; mark = Some m })
filled_here r m ps h =
    find-set (is_slot_of r) ps (position_or_len (is_slot_of r) ps) (record { res = r; mark = Some m }) refl
    (first_within r ps h) (eq-eqb r r refl)

filled_else : (r : ℕ) (m : List ℕ) (ps : List SlotValue) (q : ℕ) → is_some (slot_of ps r) ≡ true → q ≢ r →
    slot_of (filled r m ps) q ≡ slot_of ps q
filled_else r m ps q h n =
    let at : ℕ = position_or_len (is_slot_of r) ps in
    let d : SlotValue = record { res = r; mark = Some m } in
    let here : eqb (get_or ps at d).res r ≡ true = passes_at_first (is_slot_of r) ps d (first_within r ps h) in
    find_past (is_slot_of q) ps at d d (ne_eqb (get_or ps at d).res q
    (λ e. n (sym e ∙ eqb-true (get_or ps at d).res r here))) (ne_eqb r q (λ e. n (sym e)))

-- the entries reordered
pub values_same : (named : List (List ℕ)) (places : List SlotValue) (es es' : List Entry) →
    ((q : ℕ) → entry_of es' q ≡ entry_of es q) → AreValues named places es → AreValues named places es'
values_same named places es es' same v =
    record {
      numbered = λ q e h. v.numbered q e (sym (same q) ∙ h);
      placed = λ q. v.placed q ∙ ap (λ (o : Option Entry). is_some o) (sym (same q));
      kept = λ q e h r. v.kept q e (sym (same q) ∙ h) r;
    }

-- an entry gone, with its place
pub values_without : (named : List (List ℕ)) (places : List SlotValue) (es : List Entry) (r : ℕ) →
    AreValues named places es → AreValues named (without_slot r places) (without r es)
values_without named places es r v =
    let none : (q : ℕ) (e : Entry) → entry_of (without r es) q ≡ Some e → q ≢ r =
    λ q e h u. (let k : None ≡ Some e = sym (without_here r es) ∙ (ap (entry_of (without r es)) (sym u) ∙ h) in
    cc) in
    record {
      numbered = λ q e h. v.numbered q e (sym (without_else r q es (none q e h)) ∙ h);
      placed = λ q. elim (cases_eq q r) [
        | inl e ↦ ap (λ (o : Option SlotValue). is_some o)
            (ap (slot_of (without_slot r places)) e ∙ place_gone r places)
            ∙ sym (ap (λ (o : Option Entry). is_some o) (ap (entry_of (without r es)) e ∙ without_here r es))
        | inr n ↦ ap (λ (o : Option SlotValue). is_some o) (place_stays r q places n)
            ∙ (v.placed q ∙ sym (ap (λ (o : Option Entry). is_some o) (without_else r q es n)))
      ];
      kept = λ q e h k. (let n = none q e h in ap mark_in (place_stays r q places n)
          ∙ v.kept q e (sym (without_else r q es n) ∙ h) k);
    }

-- an unready entry more, with an empty place
pub values_push : (named : List (List ℕ)) (places : List SlotValue) (es : List Entry) (key r : ℕ) → key < length named →
    entry_of es r ≡ None → AreValues named places es →
    AreValues named (places ++ record { res = r; mark = None } ∷ [])
    (es ++ record { key = key; res = r; ready = false } ∷ [])
values_push named places es key r l none v =
    let p : SlotValue = record { res = r; mark = None } in
    let x : Entry = record { key = key; res = r; ready = false } in
    let here : (q : ℕ) (e : Entry) → entry_of (es ++ x ∷ []) q ≡ Some e → q ≡ r → x ≡ e =
    λ q e h u. (let k : Some x ≡ Some e = sym (push_here es x none) ∙ (ap (entry_of (es ++ x ∷ [])) (sym u) ∙ h) in
    cc) in
    record {
      numbered = λ q e h. elim (cases_eq q r) [
        | inl u ↦
            subst (λ (n : ℕ). n < length named) (ap (λ (y : Entry). y.key) (here q e h u)) l
        | inr n ↦
            v.numbered q e (sym (push_else es x q n) ∙ h)
      ];
      placed = λ q. elim (cases_eq q r) [
        | inl u ↦ subst (λ (k : ℕ). is_some (slot_of (places ++ p ∷ []) k) ≡ is_some (entry_of (es ++ x ∷ []) k))
            (sym u) (place_push_here places p ∙ sym (ap (λ (o : Option Entry). is_some o) (push_here es x none)))
        | inr n ↦ ap (λ (o : Option SlotValue). is_some o) (place_push_else places p q n)
            ∙ (v.placed q ∙ sym (ap (λ (o : Option Entry). is_some o) (push_else es x q n)))
      ];
      kept = λ q e h k. elim (cases_eq q r) [
        | inl u ↦
            (let w : false ≡ true = ap (λ (y : Entry). y.ready) (here q e h u) ∙ k in cc)
        | inr n ↦
            ap mark_in (place_push_else places p q n) ∙ v.kept q e (sym (push_else es x q n) ∙ h) k
      ];
    }

-- one more key named
pub get_front : (xs ys : List (List ℕ)) (i : ℕ) → i < length xs → slice_get (xs ++ ys) i ≡ slice_get xs i
get_front [] ys i l = absurd (omega (arith, l))
get_front (x ∷ xs) ys zero l = refl
get_front (x ∷ xs) ys (suc i) l = get_front xs ys i (omega (arith, l))

-- the values stay those of the entries when one more key is named
pub values_named : (named : List (List ℕ)) (m : List ℕ) (places : List SlotValue) (es : List Entry) →
    AreValues named places es → AreValues (named ++ m ∷ []) places es
values_named named m places es v =
    record {
      numbered = λ q e h. (let k = v.numbered q e h in let long = length_push named m in omega (arith, k, long));
      placed = v.placed;
      kept = λ q e h k. v.kept q e h k ∙ sym (get_front named (m ∷ []) e.key (v.numbered q e h));
    }

-- an entry made ready, with its value put in its place
mapped_some : (r : ℕ) (o : Option Entry) (y : Entry) → option_map (built r) o ≡ Some y → (x : Entry) × (o ≡ Some x) ×
    (built r x ≡ y)
mapped_some r None y h = let k : None ≡ Some y = h in cc
mapped_some r (Some x) y h = (x, refl, (let k : Some (built r x) ≡ Some y = h in cc))

or_false : (b : Bool) → (b || false) ≡ b
or_false true = refl
or_false false = refl

map_some : (r : ℕ) (o : Option Entry) → is_some (option_map (built r) o) ≡ is_some o
map_some r None = refl
map_some r (Some x) = refl

-- the values stay those of the entries when one is marked as ready and its key's mark put in its slot
pub values_built : (named : List (List ℕ)) (places : List SlotValue) (es : List Entry) (r : ℕ) (m : List ℕ)
    (e : Entry) → entry_of es r ≡ Some e → slice_get named e.key ≡ Some m → AreValues named places es →
    AreValues named (filled r m places) (map (built r) es)
values_built named places es r m e here name v =
    let there : is_some (slot_of places r) ≡ true = v.placed r ∙ ap (λ (o : Option Entry). is_some o) here in
    let old : (q : ℕ) (y : Entry) → entry_of (map (built r) es) q ≡ Some y → (x : Entry) × (entry_of es q ≡ Some x) ×
    (built r x ≡ y) = λ q y h. mapped_some r (entry_of es q) y (sym (entry_built r q es) ∙ h) in
    record {
      numbered = λ q y h. (let w = old q y h in
          subst (λ (n : ℕ). n < length named) (ap (λ (z : Entry). z.key) w.2) (v.numbered q w.0 w.1));
      placed = λ q. elim (cases_eq q r) [
        | inl u ↦ subst (λ (k : ℕ). is_some (slot_of (filled r m places) k) ≡ is_some (entry_of (map (built r) es) k))
            (sym u) (ap (λ (o : Option SlotValue). is_some o) (filled_here r m places there)
            ∙ sym (ap (λ (o : Option Entry). is_some o) (entry_built r r es)
            ∙ (map_some r (entry_of es r) ∙ ap (λ (o : Option Entry). is_some o) here)))
        | inr n ↦ ap (λ (o : Option SlotValue). is_some o) (filled_else r m places q there n)
            ∙ (v.placed q ∙ sym (ap (λ (o : Option Entry). is_some o) (entry_built r q es)
            ∙ map_some r (entry_of es q)))
      ];
      kept = λ q y h k. (let w = old q y h in elim (cases_eq q r) [
        | inl u ↦ (let same : Some e ≡ Some w.0 = sym here ∙ (ap (entry_of es) (sym u) ∙ w.1) in let z : e ≡ w.0 = cc in
            ap mark_in (ap (slot_of (filled r m places)) u ∙ filled_here r m places there)
            ∙ (sym name ∙ (ap (λ (x : Entry). slice_get named x.key) z
            ∙ ap (λ (x : Entry). slice_get named x.key) w.2)))
        | inr n ↦ (let other : eqb w.0.res r ≡ false = ne_eqb w.0.res r (λ u. n (sym (entry_has es q w.0 w.1) ∙ u)) in
            let ready : w.0.ready ≡ true = sym (ap (λ (b : Bool). w.0.ready || b) other ∙ or_false w.0.ready)
            ∙ (ap (λ (z : Entry). z.ready) w.2 ∙ k) in ap mark_in (filled_else r m places q there n)
            ∙ (v.kept q w.0 w.1 ready ∙ ap (λ (x : Entry). slice_get named x.key) w.2))
      ]);
    }

-- more keys are named than there are entries, where one of them has none
all_unlike : (n : ℕ) (ns : List ℕ) → list_any (λ m. eqb m n) ns ≡ false → AllByRecursion (λ m. eqb n m ≡ false) ns
all_unlike n [] h = tt
all_unlike n (m ∷ ns) h =
    let parts = or_parts (eqb m n) (list_any (λ k. eqb k n) ns) h in
    (other_way m n parts.0, all_unlike n ns parts.1)

distinct_is : (ns : List ℕ) → AreDistinct ns → IsDistinct eqb ns
unfolding IsDistinct
distinct_is [] d = tt
distinct_is (n ∷ ns) d = (all_unlike n ns d.0, distinct_is ns d.1)

distinct_cons : (n : ℕ) (ns : List ℕ) → list_any (λ m. eqb m n) ns ≡ false → IsDistinct eqb ns → IsDistinct eqb (n ∷ ns)
unfolding IsDistinct
distinct_cons n ns h d = (all_unlike n ns h, d)

found_key : (q : ℕ) (es : List Entry) → list_any (eqb q) (map (λ (e : Entry). e.key) es) ≡ true → (e : Entry) ×
    (find (has_key q) es ≡ Some e)
found_key q [] h = let k : false ≡ true = h in cc
found_key q (x ∷ xs) h =
    elim (or_cases (eqb q x.key) (list_any (eqb q) (map (λ (e : Entry). e.key) xs)) h) [
      | inl b ↦ (x, cond-true (eqb x.key q) (Some x) (find (has_key q) xs) (eq-eqb x.key q (sym (eqb-true q x.key b))))
      | inr b ↦ (let w = found_key q xs b in elim (cases_Bool (eqb x.key q)) [
        | inl k ↦
            (x, cond-true (eqb x.key q) (Some x) (find (has_key q) xs) k)
        | inr k ↦
            (w.0, cond-false (eqb x.key q) (Some x) (find (has_key q) xs) k ∙ w.1)
      ])
    ]

-- where a key that is named has no entry, there are fewer entries than keys named
pub more_names : (named : List (List ℕ)) (places : List SlotValue) (es : List Entry) (key : ℕ) →
    AreDistinct (map (λ (e : Entry). e.key) es) → AreDistinct (map (λ (e : Entry). e.res) es) →
    list_any (has_key key) es ≡ false → key < length named → AreValues named places es → length es < length named
more_names named places es key keys residencies none l v =
    let keys_of : List ℕ = map (λ (e : Entry). e.key) es in
    let no_key : list_any (λ m. eqb m key) keys_of ≡ false = any_map (λ m. eqb m key) (λ (e : Entry). e.key) es
    ∙ none in
    let below : (q : ℕ) → list_any (eqb q) (key ∷ keys_of) ≡ true → q < length named =
    λ q h. elim (or_cases (eqb q key) (list_any (eqb q) keys_of) h) [
      | inl b ↦ subst (λ (n : ℕ). n < length named) (sym (eqb-true q key b)) l
      | inr b ↦ (let w = found_key q es b in subst (λ (n : ℕ). n < length named)
          (eqb-true w.0.key q (find_passes (has_key q) es w.0 w.1))
          (v.numbered w.0.res w.0 (entry_in (has_key q) es w.0 residencies w.1)))
    ] in
    let few = length-le_from_distinct_below (key ∷ keys_of) (length named)
    (distinct_cons key keys_of no_key (distinct_is keys_of keys)) below in
    let long = length-map es (λ (e : Entry). e.key) in
    omega (arith, few, long)
