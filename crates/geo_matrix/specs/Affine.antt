-- Transformation matrices and the points that they map (PostScript Language Reference, third
-- edition, 4.3 Coordinate Systems and Transformations), each element by its raw value, a count of
-- 1/65536. Own rule: a point of the page is a whole number of sub-dots, 1/256 of a dot, rounded once,
-- and a coordinate of 2^31 sub-dots or more is refused.
use Rattle.std.specs.Prelude.{ℤ, pos, ◌+ℤ◌, ◌-ℤ◌, ◌*ℤ◌, ◌<◌, ◌^◌, ◌&&◌, Bool, nat_lt, unsigned_abs, Option, Some, None}
use Rattle.std.specs.Prelude.{if◌then◌else◌}
use Rattle.press_nums.specs.Rounding.{div_round}
use Rattle.press_nums.specs.Fix.{IsFix, is_fix}
use Rattle.press_fault.specs.Plane.{PointValue}

-- the matrix [a b c d tx ty]: a point (x, y) goes to (a x + c y + tx, b x + d y + ty)
pub record MatrixValue : Type 0 where
  pub a : ℤ
  pub b : ℤ
  pub c : ℤ
  pub d : ℤ
  pub tx : ℤ
  pub ty : ℤ

-- each element is a real number
pub record IsMatrix (m : MatrixValue) : Type 0 where
  pub a : IsFix m.a
  pub b : IsFix m.b
  pub c : IsFix m.c
  pub d : IsFix m.d
  pub tx : IsFix m.tx
  pub ty : IsFix m.ty

-- the matrix, where each element is a real number
abbrev pub affine_of : MatrixValue → Option MatrixValue
affine_of m = if is_fix m.a && is_fix m.b && is_fix m.c && is_fix m.d && is_fix m.tx && is_fix m.ty then Some m
    else None

-- the matrix that moves no point
abbrev pub identity : MatrixValue
identity = record { a = pos 65536; b = pos 0; c = pos 0; d = pos 65536; tx = pos 0; ty = pos 0 }

-- the matrix without its translation
abbrev pub linear : MatrixValue → MatrixValue
linear m = record m { tx = pos 0; ty = pos 0 }

-- the determinant, a count of 1/2^32
abbrev pub det_of : MatrixValue → ℤ
det_of m = m.a *ℤ m.d -ℤ m.b *ℤ m.c

-- the x coordinate of where a matrix puts the user point (x, y), before rounding, in 1/2^32 of a dot
abbrev pub exact_x : MatrixValue → ℤ → ℤ → ℤ
exact_x m x y = m.a *ℤ x +ℤ m.c *ℤ y +ℤ m.tx *ℤ pos 65536

-- the y coordinate of a user point under a matrix, before rounding, in 1/2^32 of a dot
abbrev pub exact_y : MatrixValue → ℤ → ℤ → ℤ
exact_y m x y = m.b *ℤ x +ℤ m.d *ℤ y +ℤ m.ty *ℤ pos 65536

-- a point that a path may have: each magnitude is below 2^31 sub-dots
pub record IsNear (s : PointValue) : Type 0 where
  pub x : unsigned_abs s.x < 2 ^ 31
  pub y : unsigned_abs s.y < 2 ^ 31

-- whether a point is one that a path may have
abbrev pub is_near : PointValue → Bool
is_near s = nat_lt (unsigned_abs s.x) (2 ^ 31) && nat_lt (unsigned_abs s.y) (2 ^ 31)

-- where a matrix puts a user point, in sub-dots
abbrev pub spot_of : MatrixValue → ℤ → ℤ → PointValue
spot_of m x y = record {
  x = div_round (exact_x m x y) (pos 16777216);
  y = div_round (exact_y m x y) (pos 16777216);
}

-- the point, where a path may have it
abbrev pub near_spot : PointValue → Option PointValue
near_spot s = if is_near s then Some s else None

-- where a matrix puts a user point, in sub-dots, rounded once; none where a magnitude is 2^31 or more
abbrev pub dots_of : MatrixValue → ℤ → ℤ → Option PointValue
dots_of m x y = near_spot (spot_of m x y)

-- what a relative step adds to a point: the same without the translation; none where a magnitude is 2^31 or more
abbrev pub step_dots_of : MatrixValue → ℤ → ℤ → Option PointValue
step_dots_of m dx dy = dots_of (linear m) dx dy
