-- The matrix that moves no point changes no matrix.
use Rattle.std.proofs.Common.{◌≡◌, ◌+◌, ◌*◌, arith, ap, refl, Some, true}
use Rattle.std.specs.Prelude.{ℤ, pos, negsuc, ◌+ℤ◌, ◌*ℤ◌}
use Rattle.std.proofs.lemmas.Int.{ints}
use Rattle.press_nums.specs.Rounding.{div_round}
use Rattle.press_nums.specs.Fix.{IsFix, is_fix}
use Rattle.geo_matrix.specs.Affine.{MatrixValue, IsMatrix, affine_of, identity}
use Rattle.geo_matrix.specs.Product.{concat_of}

rounded_whole : (n sum : ℤ) → sum ≡ n *ℤ pos 65536 → div_round sum (pos 65536) ≡ n
unfolding div_round
rounded_whole (pos n) sum e = rw e (ap pos (omega arith))
rounded_whole (negsuc n) sum e =
    let twice : negsuc n *ℤ pos 65536 *ℤ pos 2 +ℤ pos 65536 ≡ negsuc (n * 131072 + 65535) = omega (arith, ints) in
    rw (e, twice) (ap negsuc (omega arith))

fix_is : (raw : ℤ) → IsFix raw → is_fix raw ≡ true
fix_is (pos n) h = grind (arith, ints)
fix_is (negsuc n) h = grind (arith, ints)

-- six real numbers that are those of a matrix
matrix_is : (m : MatrixValue) (a b c d tx ty : ℤ) → a ≡ m.a → b ≡ m.b → c ≡ m.c → d ≡ m.d → tx ≡ m.tx → ty ≡ m.ty →
    IsMatrix m
    → affine_of (record { a = a; b = b; c = c; d = d; tx = tx; ty = ty }) ≡ Some m
matrix_is m a b c d tx ty ea eb ec ed ex ey h =
    rw (
      ea,
      eb,
      ec,
      ed,
      ex,
      ey,
      fix_is m.a h.a,
      fix_is m.b h.b,
      fix_is m.c h.c,
      fix_is m.d h.d,
      fix_is m.tx h.tx,
      fix_is m.ty h.ty,
    ) refl

-- the identity matrix first changes nothing
pub identity_first : (m : MatrixValue) → IsMatrix m → concat_of identity m ≡ Some m
identity_first m h = matrix_is m _ _ _ _ _ _
    (rounded_whole m.a _ (omega (arith, ints))) (rounded_whole m.b _ (omega (arith, ints)))
    (rounded_whole m.c _ (omega (arith, ints))) (rounded_whole m.d _ (omega (arith, ints)))
    (rounded_whole m.tx _ (omega (arith, ints))) (rounded_whole m.ty _ (omega (arith, ints))) h

-- the identity matrix after another changes nothing
pub identity_then : (m : MatrixValue) → IsMatrix m → concat_of m identity ≡ Some m
identity_then m h = matrix_is m _ _ _ _ _ _
    (rounded_whole m.a _ (omega (arith, ints))) (rounded_whole m.b _ (omega (arith, ints)))
    (rounded_whole m.c _ (omega (arith, ints))) (rounded_whole m.d _ (omega (arith, ints)))
    (rounded_whole m.tx _ (omega (arith, ints))) (rounded_whole m.ty _ (omega (arith, ints))) h
