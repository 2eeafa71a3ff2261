-- Points of a cubic Bézier curve (PostScript Language Reference, third edition, 8.2 `curveto`). Own
-- rule: the number of pieces goes by the length along the control points, and each point is the exact
-- sum, rounded once, so that a curve is flattened alike everywhere.
use Rattle.std.specs.Prelude.{ℕ, ◌+◌, ◌*◌, ◌-◌, ℤ, pos, ◌+ℤ◌, ◌-ℤ◌, ◌*ℤ◌, nat_le, unsigned_abs, List, map}
use Rattle.std.specs.Prelude.{if◌then◌else◌}
use Rattle.std.specs.List.{range_with_len}
use Rattle.press_nums.specs.Rounding.{div_round}
use Rattle.press_fault.specs.Plane.{PointValue}

-- how far apart two points are along the axes, in sub-dots
abbrev pub apart : PointValue → PointValue → ℕ
apart p q = unsigned_abs (q.x -ℤ p.x) + unsigned_abs (q.y -ℤ p.y)

-- the length along the control points: how far each is from the next, added
abbrev pub control_length : PointValue → PointValue → PointValue → PointValue → ℕ
control_length p0 p1 p2 p3 = apart p0 p1 + apart p1 p2 + apart p2 p3

-- how many pieces stand for a curve of this length in sub-dots: 8 up to 4,096, 16 up to 65,536, 32 up to 1,048,576,
-- else 64
abbrev pub pieces_of : ℕ → ℕ
pieces_of length = if nat_le length 4096 then 8 else if nat_le length 65536 then 16 else if nat_le length 1048576
    then 32 else 64

-- one coordinate of the control points, weighted: j pieces before the end and i behind the start
abbrev pub cubic : ℕ → ℕ → ℤ → ℤ → ℤ → ℤ → ℤ
cubic j i p0 p1 p2 p3 =
    p0 *ℤ pos (j * j * j) +ℤ p1 *ℤ pos (3 * (j * j * i)) +ℤ p2 *ℤ pos (3 * (i * i * j)) +ℤ p3 *ℤ pos (i * i * i)

-- one coordinate of the end of piece i of n
abbrev pub curve_at : ℕ → ℕ → ℤ → ℤ → ℤ → ℤ → ℤ
curve_at n i p0 p1 p2 p3 = div_round (cubic (n - i) i p0 p1 p2 p3) (pos (n * n * n))

-- the end of piece i of n
abbrev pub curve_spot : ℕ → PointValue → PointValue → PointValue → PointValue → ℕ → PointValue
curve_spot n p0 p1 p2 p3 i = record { x = curve_at n i p0.x p1.x p2.x p3.x; y = curve_at n i p0.y p1.y p2.y p3.y }

-- the points of a curve behind its start
unfoldable pub curve_points : PointValue → PointValue → PointValue → PointValue → List PointValue
curve_points p0 p1 p2 p3 = let n = pieces_of (control_length p0 p1 p2 p3) in
    map (curve_spot n p0 p1 p2 p3) (range_with_len 1 n)
