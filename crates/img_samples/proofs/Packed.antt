-- Where samples stand in a row.
use Rattle.std.proofs.Common.{◌≡◌, ℕ, ◌+◌, ◌*◌, ◌%◌, ◌≤◌, ◌⊎◌, inl, inr, subst, sym, arith}

-- a sample never crosses the end of a byte
pub moves_less : (bits k : ℕ) → ((bits ≡ 1) ⊎ (bits ≡ 2) ⊎ (bits ≡ 4) ⊎ (bits ≡ 8)) → k * bits % 8 + bits ≤ 8
moves_less bits k h =
    elim h [
      | inl e ↦ subst (λ b. k * b % 8 + b ≤ 8) (sym e) (omega arith)
      | inr (inl e) ↦ subst (λ b. k * b % 8 + b ≤ 8) (sym e) (omega arith)
      | inr (inr (inl e)) ↦ subst (λ b. k * b % 8 + b ≤ 8) (sym e) (omega arith)
      | inr (inr (inr e)) ↦ subst (λ b. k * b % 8 + b ≤ 8) (sym e) (omega arith)
    ]
