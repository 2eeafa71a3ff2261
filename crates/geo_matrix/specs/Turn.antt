-- The matrix of a turn (PostScript Language Reference, third edition, 4.3.3 Matrix Representation
-- and Manipulation).
use Rattle.std.specs.Prelude.{ℤ, pos, neg_ℤ}
use Rattle.geo_matrix.specs.Affine.{MatrixValue}
use Rattle.geo_matrix.specs.Sine.{sine_of, cosine_of}

-- the turn by an angle in degrees, counterclockwise in user space
abbrev pub turn_of : ℤ → MatrixValue
turn_of raw = record {
  a = cosine_of raw;
  b = sine_of raw;
  c = neg_ℤ (sine_of raw);
  d = cosine_of raw;
  tx = pos 0;
  ty = pos 0;
}
