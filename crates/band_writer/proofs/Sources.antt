-- The needs after one more mark.
use Rattle.std.proofs.Common.{◌≡◌, ℕ, suc, ◌-◌, length, arith, Bool, true, false, cond, eqb, ◌==◌, List, [], ◌∷◌}
use Rattle.std.proofs.Common.{◌++◌, Option, Some, None, refl, sym, ap}
use Rattle.std.proofs.Common.{◌∙◌, inl, inr}
use Rattle.std.specs.List.{dedup, dedup_from, filter_map, slice_get}
use Rattle.std.proofs.lemmas.Bool.{cases_Bool, cases_eq, eq-eqb, ne_eqb}
use Rattle.std.proofs.lemmas.List.{append-nil}
use Rattle.std.proofs.lemmas.List.Elements.{filter_map-append}
use Rattle.page_model.specs.Marking.{MarkValue}
use Rattle.band_writer.specs.Bands.{needs_of, mark_source}
use Rattle.band_writer.specs.Code.Drafts.{is_number, is_last, needs_after}

-- a list without neighbours that are one begins with its first item
pub record BeginsWith (first : ℕ) (all : List ℕ) : Type 0 where
  pub rest : List ℕ
  pub is : all ≡ first ∷ rest

from_first : (k : ℕ) (xs : List ℕ) → BeginsWith k (dedup_from ◌==◌ k xs)
from_first k [] = record { rest = []; is = refl }
from_first k (x ∷ xs) = elim (cases_Bool (x == k)) [
  | inl same ↦ let f = from_first k xs in record { rest = f.rest; is = rw same f.is }
  | inr other ↦ record { rest = dedup_from ◌==◌ x xs; is = rw other refl }
]

-- an item in front changes neither which is the last nor what is added behind
front_stays : (k first : ℕ) (rest : List ℕ) (x : ℕ)
    → k ∷ needs_after (first ∷ rest) (Some x) ≡ needs_after (k ∷ first ∷ rest) (Some x)
front_stays k first rest x =
    let n : length (k ∷ first ∷ rest) - 1 ≡ suc (length (first ∷ rest) - 1) = omega arith in
    let same : is_last (k ∷ first ∷ rest) x ≡ is_last (first ∷ rest) x =
    ap (λ i. is_number (slice_get (k ∷ first ∷ rest) i) x) n in
    rw same (over_cond (is_last (first ∷ rest) x) k (first ∷ rest) (first ∷ rest ++ x ∷ []))
  where
    over_cond : (b : Bool) (k : ℕ) (xs ys : List ℕ) → k ∷ cond b xs ys ≡ cond b (k ∷ xs) (k ∷ ys)
    over_cond true k xs ys = refl
    over_cond false k xs ys = refl

one_more : (a b : Bool) (k x : ℕ) → a ≡ b → cond b (k ∷ []) (k ∷ x ∷ []) ≡ cond a (k ∷ []) (k ∷ x ∷ [])
one_more a b k x same = ap (λ t. cond t (k ∷ []) (k ∷ x ∷ [])) (sym same)

same_order : (k x : ℕ) → (k == x) ≡ (x == k)
same_order k x = elim (cases_eq k x) [
  | inl same ↦ eq-eqb k x same ∙ sym (eq-eqb x k (sym same))
  | inr other ↦ ne_eqb k x other ∙ sym (ne_eqb x k (λ e. other (sym e)))
]

from_more : (k : ℕ) (xs : List ℕ) (x : ℕ)
    → dedup_from ◌==◌ k (xs ++ x ∷ []) ≡ needs_after (dedup_from ◌==◌ k xs) (Some x)
from_more k [] x = one_more (k == x) (x == k) k x (same_order k x)
from_more k (y ∷ xs) x = elim (cases_Bool (y == k)) [
  | inl same ↦ rw same (from_more k xs x)
  | inr other ↦
      let f = from_first y xs in
      rw other (ap (λ ns. k ∷ ns) (from_more y xs x) ∙ rw f.is (front_stays k y f.rest x))
]

dedup_more : (xs : List ℕ) (x : ℕ) → dedup ◌==◌ (xs ++ x ∷ []) ≡ needs_after (dedup ◌==◌ xs) (Some x)
dedup_more [] x = refl
dedup_more (k ∷ xs) x = from_more k xs x

sources_more : (xs : List ℕ) (source : Option ℕ) (all : List ℕ) → all ≡ xs ++ filter_map (λ (o : Option ℕ). o)
    (source ∷ [])
    → dedup ◌==◌ all ≡ needs_after (dedup ◌==◌ xs) source
sources_more xs None all is = ap (λ ns. dedup ◌==◌ ns) (is ∙ append-nil xs)
sources_more xs (Some x) all is = ap (λ ns. dedup ◌==◌ ns) is ∙ dedup_more xs x

-- the needs of marks and one more
pub needs_more : (marks : List MarkValue) (mark : MarkValue)
    → needs_of (marks ++ mark ∷ []) ≡ needs_after (needs_of marks) (mark_source mark)
unfolding needs_of
needs_more marks mark =
    sources_more (filter_map mark_source marks) (mark_source mark) (filter_map mark_source (marks ++ mark ∷ []))
    (filter_map-append mark_source marks (mark ∷ []))
