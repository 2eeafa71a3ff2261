-- Pens of strokes (PostScript Language Reference, third edition, 8.2 `stroke`, `setlinewidth`, `setdash`).
-- Own rules: the pen is round under every matrix, whose scale is the square root of its determinant; a line is
-- one dot wide at least; a width of 2^31 sub-dots, 1/256 of a dot, and a length of 2^62 are refused.
use Rattle.std.specs.Prelude.{ℕ, ℤ, pos, ◌*ℤ◌, int_lt, unsigned_abs, nat_lt, Bool, ◌&&◌, ◌^◌, map, Option, Some, None}
use Rattle.std.specs.Prelude.{if◌then◌else◌}
use Rattle.std.specs.List.{list_all}
use Rattle.std.specs.Option.{option_map}
use Rattle.press_nums.specs.Rounding.{div_round}
use Rattle.press_nums.specs.Roots.{root}
use Rattle.geo_matrix.specs.Affine.{MatrixValue, det_of}
use Rattle.geo_stroke.specs.Pen.{PenValue}
use Rattle.gfx_state.specs.Lines.{LineStyleValue}

-- how many dots a unit of user space is long, as a raw number, rounded down
unfoldable pub scale_of : MatrixValue → ℕ
scale_of m = root 2 (unsigned_abs (det_of m))

-- one dot, where a width in sub-dots is less
abbrev pub a_dot_or : ℤ → ℤ
a_dot_or width = if int_lt width (pos 256) then pos 256 else width

-- the width of a line in sub-dots
abbrev pub width_in : ℕ → ℤ → ℤ
width_in scale width = a_dot_or (div_round (width *ℤ pos scale) (pos 16777216))

-- half of a width, where that is below 2^31
abbrev pub half_of : ℤ → Option ℤ
half_of width = if int_lt width (pos 2147483648) then Some (div_round width (pos 2)) else None

-- a length along a line, a count of 1/65536 of a dot, rounded once
abbrev pub length_in : ℕ → ℤ → ℤ
length_in scale length = div_round (length *ℤ pos scale) (pos 65536)

-- whether a length's magnitude is below 2^62
abbrev pub is_short : ℕ → ℤ → Bool
is_short scale length = nat_lt (unsigned_abs (length_in scale length)) (2 ^ 62)

-- the length of a dash or a gap, none of which is below 0
abbrev pub dash_in : ℕ → ℤ → ℕ
dash_in scale dash = unsigned_abs (length_in scale dash)

-- a pen of this half width and these line parameters, at a scale
abbrev pub pen_with : ℕ → LineStyleValue → ℤ → PenValue
pen_with scale line half = record {
  half = half;
  cap = line.cap;
  join = line.join;
  miter = line.miter;
  dashes = map (dash_in scale) line.dashes;
  offset = length_in scale line.offset;
}

-- the pen at a scale, where its width and each of its lengths is in range
abbrev pub pen_at : ℕ → LineStyleValue → Option PenValue
pen_at scale line =
    if is_short scale line.offset && list_all (is_short scale) line.dashes
    then option_map (pen_with scale line) (half_of (width_in scale line.width))
    else None

-- the pen of line parameters under a matrix, where width, offset and each dash are in range
abbrev pub pen_of : MatrixValue → LineStyleValue → Option PenValue
pen_of m line = pen_at (scale_of m) line
