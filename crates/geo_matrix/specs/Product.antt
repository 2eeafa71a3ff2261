-- Products of matrices (PostScript Language Reference, third edition, 4.3.3 Matrix Representation and
-- Manipulation). Own rule: an element of a product is one sum, rounded once.
use Rattle.std.specs.Prelude.{ℤ, pos, ◌+ℤ◌, ◌*ℤ◌, Option}
use Rattle.press_nums.specs.Rounding.{div_round}
use Rattle.geo_matrix.specs.Affine.{MatrixValue, affine_of}

-- one element of a product: row (p, r) by column (q, s), and what is added before rounding
abbrev pub row_by_column : ℤ → ℤ → ℤ → ℤ → ℤ → ℤ
row_by_column p q r s plus = div_round (p *ℤ q +ℤ r *ℤ s +ℤ plus) (pos 65536)

-- the matrix that does the first one and then the second
abbrev pub product : MatrixValue → MatrixValue → MatrixValue
product m n = record {
  a = row_by_column m.a n.a m.b n.c (pos 0);
  b = row_by_column m.a n.b m.b n.d (pos 0);
  c = row_by_column m.c n.a m.d n.c (pos 0);
  d = row_by_column m.c n.b m.d n.d (pos 0);
  tx = row_by_column m.tx n.a m.ty n.c (n.tx *ℤ pos 65536);
  ty = row_by_column m.tx n.b m.ty n.d (n.ty *ℤ pos 65536);
}

-- that product, where each of its elements is a real number
abbrev pub concat_of : MatrixValue → MatrixValue → Option MatrixValue
concat_of m n = affine_of (product m n)
