-- User space and device space by real numbers (PostScript Language Reference, third edition, 4.3.1
-- User Space and Device Space, 4.3.3 Matrix Representation and Manipulation).
use Rattle.std.specs.Prelude.{ℤ, pos, ◌-ℤ◌, ◌*ℤ◌, ◌==◌, ◌&&◌, unsigned_abs, Option, Some, None, if◌then◌else◌}
use Rattle.press_nums.specs.Rounding.{div_round, div_round_signed}
use Rattle.press_nums.specs.Fix.{is_fix}
use Rattle.press_fault.specs.Plane.{PointValue}
use Rattle.geo_matrix.specs.Affine.{MatrixValue, det_of, exact_x, exact_y}

-- a point whose coordinates are real numbers, each by its raw value
pub record RealPointValue : Type 0 where
  pub x : ℤ
  pub y : ℤ

-- the place (x, y), where both are real numbers
abbrev pub place_of : ℤ → ℤ → Option RealPointValue
place_of x y = if is_fix x && is_fix y then Some (record { x = x; y = y }) else None

-- where a matrix puts a user point, as real numbers, each rounded once; none where one is out of range
abbrev pub device_of : MatrixValue → ℤ → ℤ → Option RealPointValue
device_of m x y = place_of (div_round (exact_x m x y) (pos 65536)) (div_round (exact_y m x y) (pos 65536))

-- the x coordinate of the user point that a matrix puts at (x, y), rounded once, all three by raw values
abbrev pub user_x : MatrixValue → ℤ → ℤ → ℤ
user_x m x y = div_round_signed ((m.d *ℤ (x -ℤ m.tx) -ℤ m.c *ℤ (y -ℤ m.ty)) *ℤ pos 65536) (det_of m)

-- the y coordinate of the user point, rounded once; a negative determinant changes the signs of dividend and divisor
abbrev pub user_y : MatrixValue → ℤ → ℤ → ℤ
user_y m x y = div_round_signed ((m.a *ℤ (y -ℤ m.ty) -ℤ m.b *ℤ (x -ℤ m.tx)) *ℤ pos 65536) (det_of m)

-- the user point that a matrix puts at a place; none for a determinant of zero, or where a coordinate is out of range
abbrev pub user_of : MatrixValue → ℤ → ℤ → Option RealPointValue
user_of m x y = if unsigned_abs (det_of m) == 0 then None else place_of (user_x m x y) (user_y m x y)

-- the user point of a point of the page; a sub-dot is raw 256
abbrev pub back_of : MatrixValue → PointValue → Option RealPointValue
back_of m s = user_of m (s.x *ℤ pos 256) (s.y *ℤ pos 256)
