-- The twelve numbers of a matrix.
use Rattle.std.proofs.Common.{◌≡◌, ◌+◌, ◌*◌, ℕ, List, [], ◌∷◌, refl, arith, to_z, of_z, w32, SFits}
use Rattle.std.specs.Prelude.{ℤ, pos, negsuc}
use Rattle.std.proofs.lemmas.Int.{ints, to_z-of_z}
use Rattle.press_nums.specs.Whole.{IsWhole}
use Rattle.icc_power.specs.CurveTag.{s15_at}
use Rattle.icc_v4lut.specs.StagesTag.{matrix_of}

fits : (x : ℤ) → IsWhole x → SFits w32 x
fits (pos n) h = record { sfits = let high = h.1 in omega (arith, ints, high) }
fits (negsuc n) h = record { sfits = let low = h.0 in omega (arith, ints, low) }

-- a number of 32 bits is kept in as many
pub kept : (x : ℤ) → IsWhole x → to_z w32 (of_z w32 x) ≡ x
kept x whole = to_z-of_z w32 x (fits x whole)

-- each is read at its place
pub twelve_numbers : (tag : List ℕ) (at : ℕ) (a b c d e f g h i j k l : ℤ) →
    a ≡ s15_at tag (at + 4 * 0) → b ≡ s15_at tag (at + 4 * 1) → c ≡ s15_at tag (at + 4 * 2) →
    d ≡ s15_at tag (at + 4 * 3) → e ≡ s15_at tag (at + 4 * 4) → f ≡ s15_at tag (at + 4 * 5) →
    g ≡ s15_at tag (at + 4 * 6) → h ≡ s15_at tag (at + 4 * 7) → i ≡ s15_at tag (at + 4 * 8) →
    j ≡ s15_at tag (at + 4 * 9) → k ≡ s15_at tag (at + 4 * 10) → l ≡ s15_at tag (at + 4 * 11) →
    (a ∷ b ∷ c ∷ d ∷ e ∷ f ∷ g ∷ h ∷ i ∷ j ∷ k ∷ l ∷ []) ≡ matrix_of tag at
twelve_numbers tag at a b c d e f g h i j k l is_a is_b is_c is_d is_e is_f is_g is_h is_i is_j is_k is_l =
    rw (is_a, is_b, is_c, is_d, is_e, is_f, is_g, is_h, is_i, is_j, is_k, is_l) refl
