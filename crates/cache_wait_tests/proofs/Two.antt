-- Two seats and their places.
use Rattle.std.proofs.Common.{◌≡◌, ℕ, List, [], ◌∷◌, length, true, sym, ap, ◌∙◌, arith, Option, Some, None}
use Rattle.std.proofs.Common.{is_some, position, slice_set}
use Rattle.std.specs.List.{list_all}
use Rattle.std.proofs.lemmas.Option.{same_Some}
use mathlib.Core.Bool.{true≢false}

module _ {A : Type 0} where
  -- both of two are taken, the first and then the second
  pub both_taken : (xs ys zs : List (Option A)) (n m : ℕ) → zs ≡ slice_set ys m None → ys ≡ slice_set xs n None
      → position is_some ys ≡ Some m → position is_some xs ≡ Some n → list_all is_some xs ≡ true → length xs ≡ 2
      → (n ≡ 0) × (m ≡ 1) × (zs ≡ None ∷ None ∷ [])
  both_taken [] ys zs n m z y p q h l = absurd (omega (arith, l))
  both_taken (x ∷ []) ys zs n m z y p q h l = absurd (omega (arith, l))
  both_taken (None ∷ y0 ∷ []) ys zs n m z y p q h l = absurd (true≢false (sym h))
  both_taken (Some x ∷ None ∷ []) ys zs n m z y p q h l = absurd (true≢false (sym h))
  both_taken (Some x ∷ Some y0 ∷ []) ys zs n m z y p q h l =
      let first : n ≡ 0 = sym (same_Some 0 n q) in
      let left : ys ≡ None ∷ Some y0 ∷ [] = y ∙ ap (λ k. slice_set (Some x ∷ Some y0 ∷ []) k None) first in
      let second : m ≡ 1 = sym (same_Some 1 m (sym (ap (position is_some) left) ∙ p)) in (
        first,
        second,
        z ∙ (ap (λ us. slice_set us m None) left
            ∙ ap (λ k. slice_set (None ∷ Some y0 ∷ []) k None) second),
      )
  both_taken (x ∷ y0 ∷ w ∷ rest) ys zs n m z y p q h l = absurd (omega (arith, l))
