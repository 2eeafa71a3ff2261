-- The map from dots to samples (PostScript Language Reference, third edition, 4.10 Images: the image matrix maps user
-- space to image space, and the inverse of the current matrix maps device space to user space).
use Rattle.std.specs.Prelude.{ℤ, pos, negsuc, neg_ℤ, ◌+ℤ◌, ◌-ℤ◌, ◌*ℤ◌, ◌<◌, ◌^◌, ◌&&◌, Bool, nat_lt, unsigned_abs}
use Rattle.std.specs.Prelude.{int_lt, if◌then◌else◌}
use Rattle.geo_matrix.specs.Affine.{MatrixValue, det_of}
use Rattle.page_model.specs.Image.{ImageMapValue}

-- what image x grows by with a dot's x, times the determinant of the current matrix
abbrev pub x_by_x : MatrixValue → MatrixValue → ℤ
x_by_x m image = image.a *ℤ m.d -ℤ image.c *ℤ m.b

-- what image x grows by with a dot's y, times that determinant
abbrev pub x_by_y : MatrixValue → MatrixValue → ℤ
x_by_y m image = image.c *ℤ m.a -ℤ image.a *ℤ m.c

-- what image y grows by with a dot's x, times that determinant
abbrev pub y_by_x : MatrixValue → MatrixValue → ℤ
y_by_x m image = image.b *ℤ m.d -ℤ image.d *ℤ m.b

-- what image y grows by with a dot's y, times that determinant
abbrev pub y_by_y : MatrixValue → MatrixValue → ℤ
y_by_y m image = image.d *ℤ m.a -ℤ image.b *ℤ m.c

-- The map of a current matrix and an image matrix, by raw values: a dot's centre is taken back by the current matrix
-- and on by the image matrix, exactly. The centre of the dot in column j and row i lies at (2j+1) and (2i+1) times
-- 32768.
abbrev pub exact_map_of : MatrixValue → MatrixValue → ImageMapValue
exact_map_of m image = record {
  a = x_by_x m image *ℤ pos 32768;
  b = y_by_x m image *ℤ pos 32768;
  c = x_by_y m image *ℤ pos 32768;
  d = y_by_y m image *ℤ pos 32768;
  tx = image.tx *ℤ det_of m -ℤ x_by_x m image *ℤ m.tx -ℤ x_by_y m image *ℤ m.ty;
  ty = image.ty *ℤ det_of m -ℤ y_by_x m image *ℤ m.tx -ℤ y_by_y m image *ℤ m.ty;
  den = det_of m *ℤ pos 65536;
}

-- the same map with the signs of all its numbers changed
abbrev pub turned : ImageMapValue → ImageMapValue
turned map = record {
  a = neg_ℤ map.a;
  b = neg_ℤ map.b;
  c = neg_ℤ map.c;
  d = neg_ℤ map.d;
  tx = neg_ℤ map.tx;
  ty = neg_ℤ map.ty;
  den = neg_ℤ map.den;
}

-- the map with a positive denominator
unfoldable pub image_map_of : MatrixValue → MatrixValue → ImageMapValue
image_map_of m image = if int_lt (det_of m) (pos 0) then turned (exact_map_of m image) else exact_map_of m image

-- each element of a matrix is below 2^20. Own rule: then the map's numbers have the bounds of an image's map
pub record IsSmall (m : MatrixValue) : Type 0 where
  pub a : unsigned_abs m.a < 2 ^ 36
  pub b : unsigned_abs m.b < 2 ^ 36
  pub c : unsigned_abs m.c < 2 ^ 36
  pub d : unsigned_abs m.d < 2 ^ 36
  pub tx : unsigned_abs m.tx < 2 ^ 36
  pub ty : unsigned_abs m.ty < 2 ^ 36

-- whether an element is below 2^20
abbrev pub is_small_element : ℤ → Bool
is_small_element raw = nat_lt (unsigned_abs raw) (2 ^ 36)

-- whether each element of a matrix is below 2^20
abbrev pub is_small : MatrixValue → Bool
is_small m =
    is_small_element m.a && is_small_element m.b && is_small_element m.c && is_small_element m.d
    && is_small_element m.tx && is_small_element m.ty
