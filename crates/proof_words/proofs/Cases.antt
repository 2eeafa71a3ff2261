-- Case splits, each case with what it knows.
use Rattle.std.proofs.Common.{◌≡◌, ◌≤◌, ◌<◌, ◌⊎◌, inl, inr, ℕ, Bool, true, false, refl}
use Rattle.std.proofs.lemmas.Bool.{cases_lt}

-- by the two cases of a truth value, each with its equation
pub by_bool : {P : Type 0} (b : Bool) → (b ≡ true → P) → (b ≡ false → P) → P
by_bool true f g = f refl
by_bool false f g = g refl

-- by the two cases of an order of natural numbers
pub by_le : {P : Type 0} (a b : ℕ) → (a ≤ b → P) → (b < a → P) → P
by_le a b f g = elim (cases_lt b a) [ inl less ↦ g less | inr most ↦ f most ]
