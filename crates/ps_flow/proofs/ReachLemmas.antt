-- Which procedures are reached from one.
use Rattle.std.proofs.Common.{◌≡◌, ◌≤◌, ◌<◌, ◌+◌, ◌++◌, ◌⊎◌, inl, inr, ℕ, zero, suc, Bool, true, false, ◌&&◌, ◌||◌}
use Rattle.std.proofs.Common.{List, [], ◌∷◌, Option, Some, None, refl, ap, ◌∙◌, sym, subst, arith}
use Rattle.std.proofs.lemmas.Bool.{eqb-true, eq-eqb}
use Rattle.std.proofs.lemmas.Bool.Decides.{eqb_tells}
use Rattle.std.proofs.lemmas.List.Folds.{list_any-append}
use Rattle.std.specs.List.{cons_option, filter_map, flat_map, slice_get}
use Rattle.std.specs.Option.{option_and_then}
use Rattle.ps_store.specs.declared.obj.Obj.{Obj}
use Rattle.ps_store.specs.declared.store.Composite.{Composite}
use Rattle.ps_store.specs.declared.store.Composite.TheVariants.{Text, Array, Dict}
use Rattle.ps_store.specs.Parts.{PartValue}
use Rattle.ps_store.specs.Store.{StoreValue, object_in}
use Rattle.ps_flow.specs.Binding.{procedure_of, procedure_at, procedures_from, procedures_of}
use Rattle.ps_flow.specs.Binding.{procedures_with, same_part, has, Reaches, here, further}

-- tests joined
pub or_left : (a b : Bool) → a ≡ true → (a || b) ≡ true
or_left true b h = refl
or_left false b h = cc

-- a truth on the right makes the whole true
pub or_right : (a b : Bool) → b ≡ true → (a || b) ≡ true
or_right true b h = refl
or_right false b h = h

-- where one or the other is true, one of both is
pub or_cases : (a b : Bool) → (a || b) ≡ true → (a ≡ true) ⊎ (b ≡ true)
or_cases true b h = inl refl
or_cases false b h = inr h

-- both are true where each is
pub and_both : (a b : Bool) → a ≡ true → b ≡ true → (a && b) ≡ true
and_both true b h k = k
and_both false b h k = cc

-- each is true where both are
pub and_parts : (a b : Bool) → (a && b) ≡ true → (a ≡ true) × (b ≡ true)
and_parts true b h = (refl, h)
and_parts false b h = cc

-- two parts that pass the test are one
pub same_true : (a b : PartValue) → same_part a b ≡ true → a ≡ b
same_true a b h =
    let outer = and_parts _ _ h in
    let inner = and_parts _ _ outer.1 in
    let id : a.id ≡ b.id = eqb-true a.id b.id outer.0 in
    let start : a.start ≡ b.start = eqb-true a.start b.start inner.0 in
    let len : a.len ≡ b.len = eqb-true a.len b.len inner.1 in
    λ i. record { id = id i; start = start i; len = len i }

-- a part is the same as itself
pub same_itself : (a : PartValue) → same_part a a ≡ true
same_itself a = and_both _ _ (eq-eqb a.id a.id refl)
    (and_both _ _ (eq-eqb a.start a.start refl) (eq-eqb a.len a.len refl))

-- the parts of two lists
pub has_left : (xs ys : List PartValue) (p : PartValue) → has xs p ≡ true → has (xs ++ ys) p ≡ true
has_left xs ys p h = list_any-append (same_part p) xs ys ∙ or_left (has xs p) (has ys p) h

-- what the second list has, both in a row have
pub has_right : (xs ys : List PartValue) (p : PartValue) → has ys p ≡ true → has (xs ++ ys) p ≡ true
has_right xs ys p h = list_any-append (same_part p) xs ys ∙ or_right (has xs p) (has ys p) h

-- what two lists in a row have, one of them has
pub has_cases : (xs ys : List PartValue) (p : PartValue) → has (xs ++ ys) p ≡ true → (has xs p ≡ true) ⊎
    (has ys p ≡ true)
has_cases xs ys p h = or_cases (has xs p) (has ys p) (sym (list_any-append (same_part p) xs ys) ∙ h)

-- what is found is there
has_found : (found : Option PartValue) (xs : List PartValue) (r : PartValue) → found ≡ Some r →
    has (cons_option found xs) r ≡ true
has_found None xs r h = cc
has_found (Some q) xs r h = or_left (same_part r q) (has xs r)
    (let e : q ≡ r = cc in subst (λ p. same_part r p ≡ true) (sym e) (same_itself r))

has_behind : (found : Option PartValue) (xs : List PartValue) (r : PartValue) → has xs r ≡ true →
    has (cons_option found xs) r ≡ true
has_behind None xs r h = h
has_behind (Some q) xs r h = or_right (same_part r q) (has xs r) h

has_found_cases : (found : Option PartValue) (xs : List PartValue) (r : PartValue) →
    has (cons_option found xs) r ≡ true → (found ≡ Some r) ⊎ (has xs r ≡ true)
has_found_cases None xs r h = inr h
has_found_cases (Some q) xs r h =
    elim (or_cases (same_part r q) (has xs r) h) [
      | inl e ↦ inl (ap (λ p. Some p) (sym (same_true r q e)))
      | inr rest ↦
          inr rest
    ]

-- a procedure at a place is one of those from there on
pub has_from : (s : StoreValue) (q r : PartValue) (at len place : ℕ) → at ≤ place → place < at + len →
    procedure_at s q place ≡ Some r → has (procedures_from s q at len) r ≡ true
has_from s q r at zero place low high is = absurd (omega arith)
has_from s q r at (suc len) place low high is = elim (which at place low) [
  | inl e ↦ has_found (procedure_at s q at) _ r (ap (procedure_at s q) e ∙ is)
  | inr above ↦ has_behind (procedure_at s q at) _ r (has_from s q r (at + 1) len place above (omega arith) is)
]
  where
    which : (at place : ℕ) → at ≤ place → (at ≡ place) ⊎ (at + 1 ≤ place)
    which at place low = elim (eqb_tells at place) [
      | inl same ↦ inl same.1
      | inr other ↦
          (let apart = other.1 in inr (omega arith))
    ]

-- a procedure among those at so many places stands at one of these
pub place_from : (s : StoreValue) (q r : PartValue) (at len : ℕ) → has (procedures_from s q at len) r ≡ true →
    (place : ℕ) × (place < at + len) × (procedure_at s q place ≡ Some r)
place_from s q r at zero h = cc
place_from s q r at (suc len) h =
    elim (has_found_cases (procedure_at s q at) (procedures_from s q (at + 1) len) r h) [
      | inl is ↦ (at, omega arith, is)
      | inr rest ↦ (let further = place_from s q r (at + 1) len rest in (further.0, omega arith, further.2))
    ]

-- a procedure that an array has as an element is one of the store's
in_items : (items : List Obj) (at : ℕ) (r : PartValue) → option_and_then procedure_of (slice_get items at) ≡ Some r →
    has (filter_map procedure_of items) r ≡ true
in_items [] at r h = cc
in_items (o ∷ items) zero r h = has_found (procedure_of o) (filter_map procedure_of items) r h
in_items (o ∷ items) (suc at) r h = has_behind (procedure_of o) (filter_map procedure_of items) r
    (in_items items at r h)

in_made : (made : List Composite) (id at : ℕ) (r : PartValue) →
    option_and_then procedure_of (object_in (slice_get made id) at) ≡ Some r →
    has (flat_map procedures_of made) r ≡ true
in_made [] id at r h = cc
in_made (Array items ∷ made) zero at r h =
    has_left (filter_map procedure_of items) (flat_map procedures_of made) r (in_items items at r h)
in_made (Text bytes ∷ made) zero at r h = cc
in_made (Dict entries ∷ made) zero at r h = cc
in_made (c ∷ made) (suc id) at r h = has_right (procedures_of c) (flat_map procedures_of made) r
    (in_made made id at r h)

-- a procedure that stands at a place is one of the store's
pub place_in_store : (s : StoreValue) (p q r : PartValue) (at : ℕ) → procedure_at s q at ≡ Some r →
    has (procedures_with p s) r ≡ true
place_in_store s p q r at is = or_right (same_part r p) _ (in_made s.made q.id (q.start + at) r is)

-- what is reached is one of the store's, or the first
pub reached_in_store : (s : StoreValue) (p q : PartValue) → Reaches s p q → has (procedures_with p s) q ≡ true
reached_in_store s p _ here = or_left (same_part p p) _ (same_itself p)
reached_in_store s p _ (further q r at way within is) = place_in_store s p q r at is
