-- Segments of lines, and half a line's width along and across them (PostScript Language Reference,
-- third edition, 8.2 `stroke`). Points are in sub-dots, 1/256 of a dot, y downwards. Own rules: two
-- equal points in a row are one; lengths are whole roots, rounded down; half a width along or across a
-- segment is rounded once for each coordinate.
use Rattle.std.specs.Prelude.{ℕ, ◌+◌, ◌*◌, ◌<◌, ◌≤◌, ◌^◌, ◌==◌, ◌≡◌, Bool, false, ◌&&◌, ℤ, pos, neg_ℤ, ◌+ℤ◌, ◌-ℤ◌, ◌*ℤ◌}
use Rattle.std.specs.Prelude.{◌≤ℤ◌, unsigned_abs, List, [], ◌∷◌, ◌++◌, if◌then◌else◌}
use Rattle.press_nums.specs.Rounding.{div_round}
use Rattle.press_nums.specs.Roots.{root}
use Rattle.press_fault.specs.Plane.{PointValue}
use Rattle.geo_matrix.specs.Affine.{IsNear}
use Rattle.geo_path.specs.Flat.{PolylineValue}

-- a segment of a line, from a point to another one
pub record LineSegmentValue : Type 0 where
  pub from : PointValue
  pub to : PointValue

-- how far a segment goes along the x axis
abbrev pub step_x : LineSegmentValue → ℤ
step_x s = s.to.x -ℤ s.from.x

-- how far a segment goes along the y axis
abbrev pub step_y : LineSegmentValue → ℤ
step_y s = s.to.y -ℤ s.from.y

-- whether a segment goes nowhere
abbrev pub is_point : LineSegmentValue → Bool
is_point s = unsigned_abs (step_x s) == 0 && unsigned_abs (step_y s) == 0

-- the square of a segment's length, in sub-dots
abbrev pub square_of : LineSegmentValue → ℕ
square_of s = unsigned_abs (step_x s) * unsigned_abs (step_x s) + unsigned_abs (step_y s) * unsigned_abs (step_y s)

-- the length of a segment in sub-dots, rounded down
abbrev pub length_of : LineSegmentValue → ℕ
length_of s = root 2 (square_of s)

-- the length of a segment in 1/65536 of a dot, rounded down
abbrev pub fine_length_of : LineSegmentValue → ℕ
fine_length_of s = root 2 (square_of s * 65536)

-- a step by a segment's length, times half a line's width
abbrev pub share_of : LineSegmentValue → ℤ → ℤ → ℤ
share_of s half step = div_round (step *ℤ half *ℤ pos 256) (pos (fine_length_of s))

-- half a line's width along a segment
abbrev pub along : ℤ → LineSegmentValue → PointValue
along half s = record { x = share_of s half (step_x s); y = share_of s half (step_y s) }

-- half a line's width across a segment: a quarter of a turn from that along it
abbrev pub across : ℤ → LineSegmentValue → PointValue
across half s = record { x = share_of s half (neg_ℤ (step_y s)); y = share_of s half (step_x s) }

-- the sum of two points
abbrev pub plus : PointValue → PointValue → PointValue
plus p q = record { x = p.x +ℤ q.x; y = p.y +ℤ q.y }

-- the difference of two points
abbrev pub minus : PointValue → PointValue → PointValue
minus p q = record { x = p.x -ℤ q.x; y = p.y -ℤ q.y }

-- a vector the other way
abbrev pub turned : PointValue → PointValue
turned v = record { x = neg_ℤ v.x; y = neg_ℤ v.y }

-- what a segment keeps: its ends are near, and they differ
pub record IsLineSegment (s : LineSegmentValue) : Type 0 where
  pub start : IsNear s.from
  pub end : IsNear s.to
  pub differs : is_point s ≡ false

-- a segment's length in 1/65536 of a dot: above 0, at most 2^41, and no less than either step in that unit
pub record HasLength (s : LineSegmentValue) (length : ℕ) : Type 0 where
  pub value : fine_length_of s ≡ length
  pub some : 0 < length
  pub x : 256 * unsigned_abs (step_x s) ≤ length
  pub y : 256 * unsigned_abs (step_y s) ≤ length
  pub bound : length ≤ 2 ^ 41

-- half a line's width, from half a dot to 2^30 sub-dots
pub record IsHalf (half : ℤ) : Type 0 where
  pub least : pos 128 ≤ℤ half
  pub most : half ≤ℤ pos (2 ^ 30)

-- a vector of half a line's width, and one that ends on the plane from every near point
pub record IsThin (v : PointValue) : Type 0 where
  pub x : unsigned_abs v.x ≤ 2 ^ 30
  pub y : unsigned_abs v.y ≤ 2 ^ 30

-- a vector of at most 2^42 along each axis
pub record IsFar (v : PointValue) : Type 0 where
  pub x : unsigned_abs v.x ≤ 2 ^ 42
  pub y : unsigned_abs v.y ≤ 2 ^ 42

-- what each two neighbours of a chain make, in order
abbrev pub between : {A B : Type 0} → (A → A → List B) → A → List A → List B
between make a [] = []
between make a (b ∷ rest) = make a b ++ between make b rest

-- a chain's end: where it is closed, it comes back to its first item
abbrev pub closing : {A : Type 0} → Bool → A → List A
closing closed a = if closed then a ∷ [] else []

-- the last item of a chain
abbrev pub last_of : {A : Type 0} → A → List A → A
last_of a [] = a
last_of a (b ∷ rest) = last_of b rest

-- the segment from a point to the next one; there is none where they are the same
abbrev pub segment_between : PointValue → PointValue → List LineSegmentValue
segment_between p q = if is_point (record { from = p; to = q }) then [] else record { from = p; to = q } ∷ []

-- the segments through points, in order; equal points in a row are one
abbrev pub segments_through : List PointValue → Bool → List LineSegmentValue
segments_through [] closed = []
segments_through (p ∷ rest) closed = between segment_between p (rest ++ closing closed p)

-- the segments of a line, back to its first point where it is closed
abbrev pub segments_of : PolylineValue → List LineSegmentValue
segments_of line = segments_through line.points line.closed
