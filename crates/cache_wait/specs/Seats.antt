-- Seats, each in the place of its number where it is here. Own rule.
use Rattle.std.specs.Prelude.{◌≡◌, ℕ, ◌+◌, List, [], ◌∷◌, Option, Some, None, is_some, position, slice_get, slice_set}
use Rattle.atomic_table.specs.Seated.{TableId}
use Rattle.turnstile.specs.Tokens.{lock_of}
use Rattle.turnstile.specs.declared.claim.Claim.TheVariants.{Free}
use Rattle.turnstile.specs.declared.lock.Pass.{Pass}

-- a pass of this lock and this number, which claims nothing
abbrev pub IsHome : {S : Type 0} → TableId → ℕ → Pass S → Type 0
IsHome id k pass = (lock_of pass ≡ id) × (pass.number ≡ k) × (pass.claim ≡ Free)

module _ {A : Type 0} where
  -- what is in a place fits it
  abbrev pub AreAt : (ℕ → A → Type 0) → List (Option A) → Type 0
  AreAt fit places = (k : ℕ) (a : A) → slice_get places k ≡ Some (Some a) → fit k a

  -- what is in the places amounts to so much
  abbrev pub total_of : (A → ℕ) → List (Option A) → ℕ
  total_of amount [] = 0
  total_of amount (None ∷ rest) = total_of amount rest
  total_of amount (Some a ∷ rest) = amount a + total_of amount rest

  -- what was taken out of places: what was in the first place that had something, and is gone from there; or nothing,
  -- where no place has something
  abbrev pub TakesFirst : Option A → List (Option A) → List (Option A) → Type 0
  TakesFirst None old new = (position is_some old ≡ None) × (new ≡ old)
  TakesFirst (Some a) old new =
      (k : ℕ) × (position is_some old ≡ Some k) × (slice_get old k ≡ Some (Some a)) × (new ≡ slice_set old k None)
