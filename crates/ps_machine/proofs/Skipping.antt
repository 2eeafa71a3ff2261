-- Text that an image has read.
use Rattle.std.proofs.Common.{◌≡◌, ◌∙◌, ℕ, List, length, drop, ap, sym, inl, inr, arith}
use Rattle.std.specs.Prelude.{min}
use Rattle.std.proofs.lemmas.Bool.{cases_lt}
use Rattle.std.proofs.lemmas.List.{drop_all}
use Rattle.std.proofs.Math.Nat.{min-eq_left, min-eq_right}
use Rattle.ps_machine.specs.State.{BodyValue}
use Rattle.ps_machine.specs.Images.{behind_bytes}

-- behind as many bytes as there are, and at most so many
behind : (bytes : List ℕ) (m : ℕ) → drop (min (length bytes) m) bytes ≡ drop m bytes
behind bytes m = elim (cases_lt m (length bytes)) [
  | inl fewer ↦ ap (λ k. drop k bytes) (min-eq_right (omega (arith, fewer)))
  | inr all ↦
      ap (λ k. drop k bytes) (min-eq_left all)
      ∙ (drop_all (length bytes) bytes (omega arith) ∙ sym (drop_all m bytes all))
]

-- the text goes on behind as many bytes as an image takes, where so many were read as it takes
pub skipped : (n m : ℕ) (s : BodyValue) → n ≡ min (length s.text.rest) m → behind_bytes n s ≡ behind_bytes m s
skipped n m s count =
    ap (λ k. behind_bytes k s) count
    ∙ ap (λ rest. let t : BodyValue = record s { text = record { depth = s.text.depth; rest = rest } } in t)
    (behind s.text.rest m)
