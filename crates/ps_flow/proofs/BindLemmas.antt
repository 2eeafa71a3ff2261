-- The store that bind leaves.
use Rattle.std.proofs.Common.{◌≡◌, ◌≤◌, ◌<◌, ◌+◌, ◌-◌, inl, inr, Bool, true, false, ◌&&◌, ◌||◌, if◌then◌else◌, nat_le}
use Rattle.std.proofs.Common.{nat_lt, nat_eq, ℕ, zero, suc, List, [], ◌∷◌, length, drop, Option, Some, None, refl, ap}
use Rattle.std.proofs.Common.{◌∙◌, sym, subst, arith}
use Rattle.std.proofs.Math.Bool.{or_assoc}
use Rattle.std.proofs.lemmas.Bool.{eqb-true, eq-eqb, leb-true, le-leb, ltb-true, lt-ltb}
use Rattle.std.proofs.lemmas.Bool.Decides.{eqb_tells}
use Rattle.std.specs.List.{list_any, slice_get, slice_set}
use Rattle.std.specs.Map.{lookup, keys_of}
use Rattle.std.specs.Option.{option_and_then, option_map}
use Rattle.ps_store.specs.declared.key.Key.{Key}
use Rattle.ps_store.specs.declared.key.Key.TheVariants.{Named}
use Rattle.ps_store.specs.declared.obj.Obj.{Obj}
use Rattle.ps_store.specs.declared.obj.Obj.TheVariants.{Name, Oper as Operator}
use Rattle.ps_store.specs.declared.oper.Oper.{Oper}
use Rattle.ps_store.specs.declared.store.Composite.{Composite}
use Rattle.ps_store.specs.declared.store.Composite.TheVariants.{Text, Array, Dict}
use Rattle.ps_store.specs.Dicts.{find_key, or_else}
use Rattle.ps_store.specs.Keys.{same_key}
use Rattle.ps_store.specs.Parts.{PartValue}
use Rattle.ps_store.specs.Store.{StoreValue, bytes_in, entries_in, found, object_at, object_in, operator_of, put_at}
use Rattle.ps_store.specs.Store.{put_in, with_changed}
use Rattle.ps_flow.specs.Binding.{Reaches, here, further, bind_store, bound, bound_to, changed_in, changed_items}
use Rattle.ps_flow.specs.Binding.{changed_made, changed_store, covers, has, is_reached_place, operator_named}
use Rattle.ps_flow.specs.Binding.{reached, same_part}
use Rattle.ps_flow.specs.BindLaw.{BindsExactly}
use Rattle.ps_flow.specs.Code.BindSteps.{bound_all, bound_at, bound_from, replaced}
use Rattle.ps_flow.specs.Code.Places.{AreFound}
use Rattle.ps_flow.specs.Code.Visits.{AreReached}
use Rattle.ps_flow.proofs.ReachLemmas.{or_left, or_right, or_cases, and_both, and_parts, same_true, same_itself}
use Rattle.ps_flow.proofs.ReachedLemmas.{reached_sound, reached_whole}

-- the entries of dictionaries stay
entries_stay : (test : ℕ → ℕ → Bool) (change : Obj → Obj) (made : List Composite) (id : ℕ) →
    entries_in (slice_get (changed_made test change made) id) ≡ entries_in (slice_get made id)
unfolding changed_made
entries_stay test change [] id = refl
entries_stay test change (Text bytes ∷ made) zero = refl
entries_stay test change (Array items ∷ made) zero = refl
entries_stay test change (Dict entries ∷ made) zero = refl
entries_stay test change (c ∷ made) (suc id) = entries_stay (λ i. test (suc i)) change made id

-- so names mean the same
find_stays : (test : ℕ → ℕ → Bool) (change : Obj → Obj) (s : StoreValue) (dicts : List ℕ) (key : Key) →
    find_key (changed_store test change s) dicts key ≡ find_key s dicts key
find_stays test change s [] key = refl
find_stays test change s (dict ∷ below) key =
    ap (λ entries. or_else (lookup (same_key key) entries) (find_key (changed_store test change s) below key))
    (entries_stay test change s.made dict)
    ∙ ap (λ rest. or_else (found s dict key) rest) (find_stays test change s below key)

named_stays : (test : ℕ → ℕ → Bool) (change : Obj → Obj) (s : StoreValue) (dicts : List ℕ) (o : Obj) →
    operator_named dicts (changed_store test change s) o ≡ operator_named dicts s o
named_stays test change s dicts (Name name true) =
    ap (option_and_then operator_of) (find_stays test change s dicts (Named name))
named_stays test change s dicts o = refl

-- what stands at a place
item_changed : (test : ℕ → Bool) (change : Obj → Obj) (items : List Obj) (at : ℕ) →
    slice_get (changed_items test change items) at
    ≡ option_map (λ o. if test at then change o else o) (slice_get items at)
unfolding changed_items
item_changed test change [] at = refl
item_changed test change (o ∷ items) zero = refl
item_changed test change (o ∷ items) (suc at) = item_changed (λ i. test (suc i)) change items at

pub object_changed : (test : ℕ → ℕ → Bool) (change : Obj → Obj) (made : List Composite) (id at : ℕ)
    → object_in (slice_get (changed_made test change made) id) at
    ≡ option_map (λ o. if test id at then change o else o) (object_in (slice_get made id) at)
unfolding changed_made
object_changed test change [] id at = refl
object_changed test change (Text bytes ∷ made) zero at = refl
object_changed test change (Array items ∷ made) zero at = item_changed (test 0) change items at
object_changed test change (Dict entries ∷ made) zero at = refl
object_changed test change (c ∷ made) (suc id) at = object_changed (λ i. test (suc i)) change made id at

-- tests that agree
items_alike : (test other : ℕ → Bool) (change : Obj → Obj) (items : List Obj) → ((i : ℕ) → other i ≡ test i) →
    changed_items test change items ≡ changed_items other change items
items_alike test other change items alike = ap (λ (t : ℕ → Bool). changed_items t change items) (λ k i. sym (alike i) k)

pub made_alike : (test other : ℕ → ℕ → Bool) (change : Obj → Obj) (made : List Composite) →
    ((i j : ℕ) → other i j ≡ test i j) → changed_made test change made ≡ changed_made other change made
made_alike test other change made alike =
    ap (λ (t : ℕ → ℕ → Bool). changed_made t change made) (λ k i j. sym (alike i j) k)

not_zero : (i : ℕ) → suc i ≡ 0 → ⊥
not_zero i h = absurd (omega (arith, h))

-- tests that agree but at one place, where what is there doesn't change
either : (a b : Bool) (change : Obj → Obj) (o : Obj) → change o ≡ o →
    (if a then change o else o) ≡ (if b then change o else o)
either true true change o same = refl
either true false change o same = same
either false true change o same = sym same
either false false change o same = refl

items_still : (test other : ℕ → Bool) (change : Obj → Obj) (items : List Obj) (at : ℕ) →
    ((o : Obj) → slice_get items at ≡ Some o → change o ≡ o) → ((i : ℕ) → (i ≡ at → ⊥) → other i ≡ test i)
    → changed_items test change items ≡ changed_items other change items
unfolding changed_items
items_still test other change [] at still alike = refl
items_still test other change (o ∷ items) zero still alike =
    ap (λ x. x ∷ changed_items (λ i. test (suc i)) change items) (either (test 0) (other 0) change o (still o refl))
    ∙ ap (λ rest. (if other 0 then change o else o) ∷ rest)
    (items_alike (λ i. test (suc i)) (λ i. other (suc i)) change items (λ i. alike (suc i) (not_zero i)))
items_still test other change (o ∷ items) (suc at) still alike =
    ap (λ b. (if b then change o else o) ∷ changed_items (λ i. test (suc i)) change items)
    (sym (alike 0 (λ h. not_zero at (sym h))))
    ∙ ap (λ rest. (if other 0 then change o else o) ∷ rest)
    (items_still (λ i. test (suc i)) (λ i. other (suc i)) change items at still
    (λ i apart. alike (suc i) (λ h. apart (let e : suc i ≡ suc at = h in omega (arith, e)))))

made_still : (test other : ℕ → ℕ → Bool) (change : Obj → Obj) (made : List Composite) (id at : ℕ) →
    ((o : Obj) → object_in (slice_get made id) at ≡ Some o → change o ≡ o)
    → ((i j : ℕ) → (i ≡ id → j ≡ at → ⊥) → other i j ≡ test i j) →
    changed_made test change made ≡ changed_made other change made
unfolding changed_made
made_still test other change [] id at still alike = refl
made_still test other change (Text bytes ∷ made) zero at still alike =
    ap (λ rest. Text bytes ∷ rest) (made_alike (λ i. test (suc i)) (λ i. other (suc i)) change made
    (λ i j. alike (suc i) j (λ h _. not_zero i h)))
made_still test other change (Dict entries ∷ made) zero at still alike =
    ap (λ rest. Dict entries ∷ rest) (made_alike (λ i. test (suc i)) (λ i. other (suc i)) change made
    (λ i j. alike (suc i) j (λ h _. not_zero i h)))
made_still test other change (Array items ∷ made) zero at still alike =
    ap (λ xs. Array xs ∷ changed_made (λ i. test (suc i)) change made)
    (items_still (test 0) (other 0) change items at still (λ j apart. alike 0 j (λ _ h. apart h)))
    ∙ ap (λ rest. Array (changed_items (other 0) change items) ∷ rest)
    (made_alike (λ i. test (suc i)) (λ i. other (suc i)) change made (λ i j. alike (suc i) j (λ h _. not_zero i h)))
made_still test other change (c ∷ made) (suc id) at still alike =
    ap (λ (t : ℕ → Bool). changed_in t change c ∷ changed_made (λ i. test (suc i)) change made)
    (λ k j. sym (alike 0 j (λ h _. not_zero id (sym h))) k)
    ∙ ap (λ rest. changed_in (other 0) change c ∷ rest)
    (made_still (λ i. test (suc i)) (λ i. other (suc i)) change made id at still
    (λ i j apart. alike (suc i) j (λ h k. apart (let e : suc i ≡ suc id = h in omega (arith, e)) k)))

-- tests that agree but at one place, which changes
items_set : (test other : ℕ → Bool) (change : Obj → Obj) (items : List Obj) (at : ℕ) (o : Obj) →
    slice_get items at ≡ Some o → other at ≡ true → ((i : ℕ) → (i ≡ at → ⊥) → other i ≡ test i)
    → slice_set (changed_items test change items) at (change o) ≡ changed_items other change items
unfolding changed_items
items_set test other change [] at o is marked alike = cc
items_set test other change (x ∷ items) zero o is marked alike =
    let e : x ≡ o = cc in
    ap (λ rest. change o ∷ rest) (items_alike (λ i. test (suc i)) (λ i. other (suc i)) change items
    (λ i. alike (suc i) (not_zero i)))
    ∙ (ap (λ y. change y ∷ changed_items (λ i. other (suc i)) change items) (sym e)
    ∙ ap (λ b. (if b then change x else x) ∷ changed_items (λ i. other (suc i)) change items) (sym marked))
items_set test other change (x ∷ items) (suc at) o is marked alike =
    ap (λ b. (if b then change x else x) ∷ slice_set (changed_items (λ i. test (suc i)) change items) at (change o))
    (sym (alike 0 (λ h. not_zero at (sym h))))
    ∙ ap (λ rest. (if other 0 then change x else x) ∷ rest)
    (items_set (λ i. test (suc i)) (λ i. other (suc i)) change items at o is marked
    (λ i apart. alike (suc i) (λ h. apart (let e : suc i ≡ suc at = h in omega (arith, e)))))

-- the composite of a place that changes, and the store with it
pub record IsPut (test other : ℕ → ℕ → Bool) (change : Obj → Obj) (made : List Composite) (id at : ℕ)
    (o : Obj) : Type 0 where
  pub held : Composite
  pub is : slice_get (changed_made test change made) id ≡ Some held
  pub put : slice_set (changed_made test change made) id (put_in held at (change o)) ≡ changed_made other change made

made_put : (test other : ℕ → ℕ → Bool) (change : Obj → Obj) (made : List Composite) (id at : ℕ) (o : Obj) →
    object_in (slice_get made id) at ≡ Some o → other id at ≡ true
    → ((i j : ℕ) → (i ≡ id → j ≡ at → ⊥) → other i j ≡ test i j) → IsPut test other change made id at o
unfolding changed_made
made_put test other change [] id at o is marked alike = cc
made_put test other change (Text bytes ∷ made) zero at o is marked alike = cc
made_put test other change (Dict entries ∷ made) zero at o is marked alike = cc
made_put test other change (Array items ∷ made) zero at o is marked alike = record {
  held = Array (changed_items (test 0) change items);
  is = refl;
  put =
      ap (λ xs. Array xs ∷ changed_made (λ i. test (suc i)) change made)
      (items_set (test 0) (other 0) change items at o is marked (λ j apart. alike 0 j (λ _ h. apart h)))
      ∙ ap (λ rest. Array (changed_items (other 0) change items) ∷ rest)
      (made_alike (λ i. test (suc i)) (λ i. other (suc i)) change made
      (λ i j. alike (suc i) j (λ h _. not_zero i h)));
}
made_put test other change (c ∷ made) (suc id) at o is marked alike =
    let rest = made_put (λ i. test (suc i)) (λ i. other (suc i)) change made id at o is marked
    (λ i j apart. alike (suc i) j (λ h k. apart (let e : suc i ≡ suc id = h in omega (arith, e)) k)) in
    record {
      held = rest.held;
      is = rest.is;
      put =
          ap (λ xs. changed_in (test 0) change c ∷ xs) rest.put
          ∙ ap (λ (t : ℕ → Bool). changed_in t change c ∷ changed_made (λ i. other (suc i)) change made)
          (λ k j. sym (alike 0 j (λ h _. not_zero id (sym h))) k);
    }

-- what is bound stays
named_bound : (dicts : List ℕ) (s : StoreValue) (o : Obj) (op : Option Oper) → operator_named dicts s o ≡ op →
    operator_named dicts s (bound_to op o) ≡ None
named_bound dicts s o (Some op) e = refl
named_bound dicts s o None e = e

-- a place more is bound
module _ (dicts : List ℕ) (s : StoreValue) (p : PartValue) (at : ℕ) (test other : ℕ → ℕ → Bool)
    (marked : other p.id (p.start + at) ≡ true)
    (alike : (i j : ℕ) → (i ≡ p.id → j ≡ p.start + at → ⊥) → other i j ≡ test i j) where
  last : (o : Obj) → object_at s p at ≡ Some o → (op : Option Oper) → operator_named dicts s o ≡ op →
      replaced (changed_store test (bound dicts s) s) p at op ≡ changed_store other (bound dicts s) s
  last o is None e = ap (λ (made : List Composite). let k : StoreValue = record { made = made; units = s.units } in k)
      (made_still test other (bound dicts s) s.made p.id (p.start + at)
      (λ x h. let same : o ≡ x = cc in subst (λ y. bound dicts s y ≡ y) same (ap (λ op. bound_to op o) e)) alike)
  last o is (Some op) e =
      let put = made_put test other (bound dicts s) s.made p.id (p.start + at) o is marked alike in
      let value : bound dicts s o ≡ Operator op = ap (λ x. bound_to x o) e in
      ap (λ x. put_at (changed_store test (bound dicts s) s) p at x) (sym value)
      ∙ (ap (with_changed (changed_store test (bound dicts s) s) p.id (λ c. put_in c (p.start + at) (bound dicts s o)))
      put.is
      ∙ ap (λ (made : List Composite). let k : StoreValue = record { made = made; units = s.units } in k) put.put)

  -- where the place was bound before
  bound_before : test p.id (p.start + at) ≡ true → (i j : ℕ) → other i j ≡ test i j
  bound_before before i j = elim (eqb_tells i p.id) [
    | inr apart ↦ (let no_ = apart.1 in alike i j (λ h _. no_ h))
    | inl same ↦ elim (eqb_tells j (p.start + at)) [
      | inr apart ↦ (let no_ = apart.1 in alike i j (λ _ h. no_ h))
      | inl there ↦ ap (λ x. other x j) same.1
          ∙ (ap (other p.id) there.1 ∙ (marked ∙ (sym before
          ∙ (ap (test p.id) (sym there.1) ∙ ap (λ x. test x j) (sym same.1)))))
    ]
  ]

  by_object : (object : Option Obj) → object_at s p at ≡ object → (b : Bool) → test p.id (p.start + at) ≡ b
      → replaced (changed_store test (bound dicts s) s) p at
      (option_and_then (operator_named dicts (changed_store test (bound dicts s) s))
      (option_map (λ o. if b then bound dicts s o else o) object)) ≡ changed_store other (bound dicts s) s
  by_object None is b tested = ap (λ (made : List Composite). let k : StoreValue =
      record { made = made; units = s.units } in k)
      (made_still test other (bound dicts s) s.made p.id (p.start + at) (λ x h. cc) alike)
  by_object (Some o) is true tested =
      ap (replaced (changed_store test (bound dicts s) s) p at)
      (named_stays test (bound dicts s) s dicts (bound dicts s o)
      ∙ named_bound dicts s o (operator_named dicts s o) refl)
      ∙ ap (λ (made : List Composite). let k : StoreValue = record { made = made; units = s.units } in k)
      (made_alike test other (bound dicts s) s.made (bound_before tested))
  by_object (Some o) is false tested =
      ap (replaced (changed_store test (bound dicts s) s) p at) (named_stays test (bound dicts s) s dicts o)
      ∙ last o is (operator_named dicts s o) refl

  pub bound_step : bound_at dicts (changed_store test (bound dicts s) s) p at ≡ changed_store other (bound dicts s) s
  bound_step =
      ap (λ object. replaced (changed_store test (bound dicts s) s) p at
      (option_and_then (operator_named dicts (changed_store test (bound dicts s) s)) object))
      (object_changed test (bound dicts s) s.made p.id (p.start + at))
      ∙ by_object (object_at s p at) refl (test p.id (p.start + at)) refl

-- tests that join
or_none : (a b : Bool) → (b ≡ true → ⊥) → (a || b) ≡ a
or_none true b h = refl
or_none false true h = absurd (h refl)
or_none false false h = refl

alike_store : (test other : ℕ → ℕ → Bool) (change : Obj → Obj) (s : StoreValue) → ((i j : ℕ) → other i j ≡ test i j) →
    changed_store test change s ≡ changed_store other change s
alike_store test other change s alike = ap
    (λ (made : List Composite). let k : StoreValue = record { made = made; units = s.units } in k)
    (made_alike test other change s.made alike)

-- places from one on
bound_places : (dicts : List ℕ) (s : StoreValue) (p : PartValue) (len at : ℕ) (test other : ℕ → ℕ → Bool)
    → ((j : ℕ) → p.start + at ≤ j → j < p.start + at + len → other p.id j ≡ true)
    → ((i j : ℕ) → (i ≡ p.id → p.start + at ≤ j → j < p.start + at + len → ⊥) → other i j ≡ test i j)
    → bound_from dicts (changed_store test (bound dicts s) s) p at len ≡ changed_store other (bound dicts s) s
unfolding bound_from
bound_places dicts s p zero at test other inside outside =
    alike_store test other (bound dicts s) s (λ i j. outside i j (λ _ low high. absurd (omega (arith, low, high))))
bound_places dicts s p (suc len) at test other inside outside =
    let one : ℕ → ℕ → Bool = λ i j. test i j || (nat_eq i p.id && nat_eq j (p.start + at)) in
    let marked : one p.id (p.start + at) ≡ true =
    or_right (test p.id (p.start + at)) _ (and_both (nat_eq p.id p.id) _ (eq-eqb p.id p.id refl)
    (eq-eqb (p.start + at) (p.start + at) refl)) in
    let alike : (i j : ℕ) → (i ≡ p.id → j ≡ p.start + at → ⊥) → one i j ≡ test i j =
    λ i j apart. or_none (test i j) _ (λ h. let both = and_parts (nat_eq i p.id) (nat_eq j (p.start + at)) h in
    apart (eqb-true i p.id both.0) (eqb-true j (p.start + at) both.1)) in
    ap (λ store. bound_from dicts store p (at + 1) len) (bound_step dicts s p at test one marked alike)
    ∙ bound_places dicts s p len (at + 1) one other
    (λ j low high. inside j (omega (arith, low)) (omega (arith, high)))
    (λ i j apart. elim (eqb_tells j (p.start + at)) [
      | inr away ↦ (let no_ = away.1 in outside i j
          (λ e low high. apart e (omega (arith, low, no_)) (omega (arith, high))) ∙ sym (alike i j (λ _ h. no_ h)))
      | inl there ↦ elim (eqb_tells i p.id) [
        | inr away ↦ (let no_ = away.1 in outside i j (λ e _ _. no_ e) ∙ sym (alike i j (λ h _. no_ h)))
        | inl same ↦ (let at_ : j ≡ p.start + at = there.1 in
            ap (λ x. other x j) same.1 ∙ (inside j (omega (arith, at_)) (omega (arith, at_))
            ∙ (sym marked ∙ (ap (one p.id) (sym at_) ∙ ap (λ x. one x j) (sym same.1)))))
      ]
    ])

bound_parts : (dicts : List ℕ) (s : StoreValue) (parts : List PartValue) (test : ℕ → ℕ → Bool)
    → bound_all dicts (changed_store test (bound dicts s) s) parts
    ≡ changed_store (λ i j. test i j || list_any (λ q. covers q i j) parts) (bound dicts s) s
unfolding bound_all
bound_parts dicts s [] test = alike_store test (λ i j. test i j || false) (bound dicts s) s
    (λ i j. or_none (test i j) false (λ h. cc))
bound_parts dicts s (p ∷ parts) test =
    let one : ℕ → ℕ → Bool = λ i j. test i j || covers p i j in
    ap (λ store. bound_all dicts store parts)
    (bound_places dicts s p p.len 0 test one
    (λ j low high. or_right (test p.id j) _ (and_both (nat_eq p.id p.id) _ (eq-eqb p.id p.id refl)
    (and_both (nat_le p.start j) _ (le-leb p.start j (omega (arith, low)))
    (lt-ltb j (p.start + p.len) (omega (arith, high))))))
    (λ i j apart. or_none (test i j) _ (λ h.
    let outer = and_parts (nat_eq p.id i) _ h in
    let inner = and_parts (nat_le p.start j) (nat_lt j (p.start + p.len)) outer.1 in
    let low : p.start ≤ j = leb-true p.start j inner.0 in
    let high : j < p.start + p.len = ltb-true j (p.start + p.len) inner.1 in
    apart (sym (eqb-true p.id i outer.0)) (omega (arith, low)) (omega (arith, high)))))
    ∙ (bound_parts dicts s parts one
    ∙ alike_store (λ i j. one i j || list_any (λ q. covers q i j) parts)
    (λ i j. test i j || list_any (λ q. covers q i j) (p ∷ parts)) (bound dicts s) s
    (λ i j. sym (or_assoc (test i j) (covers p i j) (list_any (λ q. covers q i j) parts))))

-- nothing is changed where no test passes
items_none : (change : Obj → Obj) (items : List Obj) → changed_items (λ i. false) change items ≡ items
unfolding changed_items
items_none change [] = refl
items_none change (o ∷ items) = ap (λ rest. o ∷ rest) (items_none change items)

made_none : (change : Obj → Obj) (made : List Composite) → changed_made (λ i j. false) change made ≡ made
unfolding changed_made
made_none change [] = refl
made_none change (Text bytes ∷ made) = ap (λ rest. Text bytes ∷ rest) (made_none change made)
made_none change (Dict entries ∷ made) = ap (λ rest. Dict entries ∷ rest) (made_none change made)
made_none change (Array items ∷ made) = ap (λ xs. Array xs ∷ changed_made (λ i j. false) change made)
    (items_none change items) ∙ ap (λ rest. Array items ∷ rest) (made_none change made)

-- two tests that pass alike
pub same_test : (a b : Bool) → (a ≡ true → b ≡ true) → (b ≡ true → a ≡ true) → a ≡ b
same_test true b h k = sym (h refl)
same_test false true h k = k refl
same_test false false h k = refl

-- one of these passes the test
pub any_has : (test : PartValue → Bool) (parts : List PartValue) → list_any test parts ≡ true → (q : PartValue) ×
    (has parts q ≡ true) × (test q ≡ true)
any_has test [] h = cc
any_has test (p ∷ parts) h = elim (or_cases (test p) (list_any test parts) h) [
  | inl first ↦ (p, or_left (same_part p p) (has parts p) (same_itself p), first)
  | inr later ↦ (let rest = any_has test parts later in
      (rest.0, or_right (same_part rest.0 p) (has parts rest.0) rest.1, rest.2))
]

-- one of these that passes the test
pub has_any : (test : PartValue → Bool) (parts : List PartValue) (q : PartValue) → has parts q ≡ true → test q ≡ true →
    list_any test parts ≡ true
has_any test [] q h passes = cc
has_any test (p ∷ parts) q h passes = elim (or_cases (same_part q p) (has parts q) h) [
  | inl same ↦ or_left (test p) (list_any test parts) (subst (λ x. test x ≡ true) (same_true q p same) passes)
  | inr later ↦ or_right (test p) (list_any test parts) (has_any test parts q later passes)
]

-- all that are reached are among them
reached_all : (s : StoreValue) (p : PartValue) (visits : List PartValue) → AreReached s p visits → (q : PartValue) →
    Reaches s p q → has visits q ≡ true
reached_all s p visits are _ here = are.first
reached_all s p visits are _ (further q r at way within is) =
    are.closed q r at (reached_all s p visits are q way) within is

pub reached_place_whole : (s : StoreValue) (p q : PartValue) (id at : ℕ) → Reaches s p q → covers q id at ≡ true →
    is_reached_place s p id at ≡ true
unfolding is_reached_place
reached_place_whole s p q id at way covered =
    has_any (λ x. covers x id at) (reached s p) q (reached_whole s p q way) covered

pub reached_place_sound : (s : StoreValue) (p : PartValue) (id at : ℕ) → is_reached_place s p id at ≡ true →
    (q : PartValue) × Reaches s p q × (covers q id at ≡ true)
unfolding is_reached_place
reached_place_sound s p id at h =
    let found = any_has (λ x. covers x id at) (reached s p) h in
    (found.0, reached_sound s p found.0 found.1, found.2)

-- the places of these are the places that are reached
places_reached : (s : StoreValue) (p : PartValue) (visits : List PartValue) → AreReached s p visits → (i j : ℕ) →
    is_reached_place s p i j ≡ list_any (λ q. covers q i j) visits
places_reached s p visits are i j = same_test _ _
    (λ h. let reached = reached_place_sound s p i j h in
    has_any (λ q. covers q i j) visits reached.0 (reached_all s p visits are reached.0 reached.1) reached.2)
    (λ h. let found = any_has (λ q. covers q i j) visits h in
    reached_place_whole s p found.0 i j (are.sound found.0 found.1) found.2)

-- once all places of the reached procedures are bound, the store is as `bind` leaves it
pub bound_whole : (dicts : List ℕ) (s : StoreValue) (p : PartValue) (seen : List (PartValue × ℕ)) →
    AreFound s p seen → bound_all dicts s (keys_of seen) ≡ bind_store dicts s p
unfolding bind_store
bound_whole dicts s p seen found =
    ap (λ (made : List Composite). bound_all dicts
    (let k : StoreValue = record { made = made; units = s.units } in k) (keys_of seen))
    (sym (made_none (bound dicts s) s.made))
    ∙ (bound_parts dicts s (keys_of seen) (λ i j. false)
    ∙ alike_store (λ i j. list_any (λ q. covers q i j) (keys_of seen)) (is_reached_place s p) (bound dicts s) s
    (λ i j. places_reached s p found.visits found.reached i j ∙ sym (found.places i j)))

-- the loops
pub bound_more : (dicts : List ℕ) (s : StoreValue) (p : PartValue) (at len : ℕ) → at < len →
    bound_from dicts (bound_at dicts s p at) p (at + 1) (len - (at + 1)) ≡ bound_from dicts s p at (len - at)
unfolding bound_from
bound_more dicts s p at len within =
    let left : suc (len - (at + 1)) ≡ len - at = omega arith in
    ap (bound_from dicts s p at) left

-- at the end of a part no place is left to bind
pub bound_enough : (dicts : List ℕ) (s : StoreValue) (p : PartValue) (at len : ℕ) → len ≤ at →
    bound_from dicts s p at (len - at) ≡ s
unfolding bound_from
bound_enough dicts s p at len past = let none : len - at ≡ 0 = omega arith in ap (bound_from dicts s p at) none

drop_at : (parts : List PartValue) (place : ℕ) (p : PartValue) → slice_get parts place ≡ Some p → drop place parts ≡ p
    ∷ drop (suc place) parts
drop_at [] place p is = cc
drop_at (q ∷ parts) zero p is = let e : q ≡ p = cc in ap (λ x. x ∷ parts) e
drop_at (q ∷ parts) (suc place) p is = drop_at parts place p is

drop_none : (parts : List PartValue) (place : ℕ) → slice_get parts place ≡ None → drop place parts ≡ []
drop_none [] zero is = refl
drop_none [] (suc place) is = refl
drop_none (q ∷ parts) zero is = cc
drop_none (q ∷ parts) (suc place) is = drop_none parts place is

-- a procedure is bound, and then those behind it
pub all_more : (dicts : List ℕ) (s : StoreValue) (parts : List PartValue) (place : ℕ) (p : PartValue) →
    slice_get parts place ≡ Some p
    → bound_all dicts (bound_from dicts s p 0 p.len) (drop (place + 1) parts) ≡ bound_all dicts s (drop place parts)
unfolding bound_all
all_more dicts s parts place p is =
    let next : place + 1 ≡ suc place = omega arith in
    ap (λ n. bound_all dicts (bound_from dicts s p 0 p.len) (drop n parts)) next
    ∙ ap (bound_all dicts s) (sym (drop_at parts place p is))

-- at the end of the procedures none is left to bind
pub all_enough : (dicts : List ℕ) (s : StoreValue) (parts : List PartValue) (place : ℕ) → slice_get parts place ≡ None →
    bound_all dicts s (drop place parts) ≡ s
unfolding bound_all
all_enough dicts s parts place is = ap (bound_all dicts s) (drop_none parts place is)

-- strings and the number of composites stay
bytes_stay : (test : ℕ → ℕ → Bool) (change : Obj → Obj) (made : List Composite) (id start len : ℕ) →
    bytes_in (slice_get (changed_made test change made) id) start len ≡ bytes_in (slice_get made id) start len
unfolding changed_made
bytes_stay test change [] id start len = refl
bytes_stay test change (Text bytes ∷ made) zero start len = refl
bytes_stay test change (Array items ∷ made) zero start len = refl
bytes_stay test change (Dict entries ∷ made) zero start len = refl
bytes_stay test change (c ∷ made) (suc id) start len = bytes_stay (λ i. test (suc i)) change made id start len

count_stays : (test : ℕ → ℕ → Bool) (change : Obj → Obj) (made : List Composite) →
    length (changed_made test change made) ≡ length made
unfolding changed_made
count_stays test change [] = refl
count_stays test change (c ∷ made) = ap suc (count_stays (λ i. test (suc i)) change made)

picked : (b : Bool) (change : Obj → Obj) (o : Obj) → b ≡ true → (if b then change o else o) ≡ change o
picked true change o h = refl
picked false change o h = cc

unpicked : (b : Bool) (change : Obj → Obj) (object : Option Obj) → b ≡ false →
    option_map (λ o. if b then change o else o) object ≡ object
unpicked true change object h = cc
unpicked false change None h = refl
unpicked false change (Some o) h = refl

is_false : (b : Bool) → (b ≡ true → ⊥) → b ≡ false
is_false true h = absurd (h refl)
is_false false h = refl

-- bind changes exactly what the law says
pub binds_exactly : (dicts : List ℕ) (s : StoreValue) (p : PartValue) → BindsExactly dicts s p (bind_store dicts s p)
unfolding bind_store
binds_exactly dicts s p = record {
  reached = λ q at o way within is.
      let covered : covers q q.id (q.start + at) ≡ true = and_both (nat_eq q.id q.id) _ (eq-eqb q.id q.id refl)
      (and_both (nat_le q.start (q.start + at)) _ (le-leb q.start (q.start + at) (omega arith))
      (lt-ltb (q.start + at) (q.start + q.len) (omega (arith, within)))) in
      let marked = reached_place_whole s p q q.id (q.start + at) way covered in
      object_changed (is_reached_place s p) (bound dicts s) s.made q.id (q.start + at)
      ∙ (ap (option_map (λ x. if is_reached_place s p q.id (q.start + at) then bound dicts s x else x)) is
      ∙ ap (λ x. Some x) (picked (is_reached_place s p q.id (q.start + at)) (bound dicts s) o marked));
  others = λ id at outside.
      object_changed (is_reached_place s p) (bound dicts s) s.made id at
      ∙ unpicked (is_reached_place s p id at) (bound dicts s) (object_in (slice_get s.made id) at)
      (is_false (is_reached_place s p id at) (λ h. let found = reached_place_sound s p id at h in let no_ =
      outside found.0 found.1 in let yes_ = found.2 in cc));
  entries = λ dict. entries_stay (is_reached_place s p) (bound dicts s) s.made dict;
  bytes = λ q. bytes_stay (is_reached_place s p) (bound dicts s) s.made q.id q.start q.len;
  count = count_stays (is_reached_place s p) (bound dicts s) s.made;
  units = refl;
}
