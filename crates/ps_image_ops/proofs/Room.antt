-- Room for samples.
use Rattle.std.proofs.Common.{◌≡◌, ◌+◌, ℕ, inl, inr, refl, arith}
use Rattle.std.specs.Prelude.{nat_le, ◌&&◌}
use Rattle.std.proofs.lemmas.Bool.{cases_lt, le-leb, lt-leb}

-- where there is room for so many more, there are no more than have room on a blank page
pub room : (n held most : ℕ) → (nat_le n most && nat_le (held + n) most) ≡ nat_le (held + n) most
room n held most = elim (cases_lt most n) [
  | inl more ↦ rw (lt-leb n most more, lt-leb (held + n) most (omega (arith, more))) refl
  | inr few ↦ rw (le-leb n most few) refl
]
