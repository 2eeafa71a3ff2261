-- Dashes (PostScript Language Reference, third edition, 8.2 `setdash`). Lengths and distances count
-- 1/65536 of a dot. Dashes and gaps take turns, a dash first, and come again and again. Own rules: a
-- line begins as far into the first cycle as the offset says, and no cycle comes before that one; a dash
-- is a line of its own, through points rounded once; a dash whose length is 0 stands also where it
-- meets an end of the line.
use Rattle.std.specs.Prelude.{ℕ, ◌+◌, ◌-◌, ◌*◌, ◌/◌, ◌%◌, ◌==◌, Bool, true, false, not, ◌&&◌, nat_le, nat_lt, min, ℤ}
use Rattle.std.specs.Prelude.{pos, ◌+ℤ◌, ◌*ℤ◌, unsigned_abs, List, [], ◌∷◌, ◌++◌, length, if◌then◌else◌}
use Rattle.std.specs.Int.{int_rem_euclid}
use Rattle.std.specs.List.{flat_map, sum, range_with_len}
use Rattle.press_nums.specs.Rounding.{div_round}
use Rattle.press_fault.specs.Plane.{PointValue}
use Rattle.page_model.specs.declared.shape.Shape.{Shape}
use Rattle.geo_path.specs.Flat.{PolylineValue}
use Rattle.geo_stroke.specs.declared.pen.Cap.{Cap}
use Rattle.geo_stroke.specs.declared.pen.Cap.TheVariants.{Butt, Round, Square}
use Rattle.geo_stroke.specs.declared.dash.Dash.{Dash}
use Rattle.geo_stroke.specs.Pen.{PenValue, is_solid}
use Rattle.geo_stroke.specs.Segment.{LineSegmentValue, step_x, step_y, fine_length_of, along, across, segments_of}
use Rattle.geo_stroke.specs.Corner.{disc_at}
use Rattle.geo_stroke.specs.Outline.{square_end, square_start, dot, line_shapes}

-- whether a pattern has an even number of elements
abbrev pub is_even : List ℕ → Bool
is_even dashes = length dashes % 2 == 0

-- the length of a cycle: the pattern once, or twice where its number of elements is odd, since then
-- dashes and gaps change places the second time
abbrev pub cycle_length : List ℕ → ℕ
cycle_length dashes = if is_even dashes then sum dashes else 2 * sum dashes

-- how far into a cycle a line begins: the offset modulo the length of a cycle, never below 0
abbrev pub phase_of : List ℕ → ℤ → ℕ
phase_of dashes offset = unsigned_abs (int_rem_euclid offset (pos (cycle_length dashes)))

-- Below, `at` is a distance from the start of the first cycle, so a line goes from `phase` to
-- `phase + total`.

-- whether a dash is made: where some length over 0 of it lies on the line, and one of length 0 where
-- it stands on the line, both ends included
abbrev pub is_made : ℕ → ℕ → ℕ → ℕ → Bool
is_made phase total at size =
    if size == 0 then nat_le phase at && nat_le at (phase + total) else nat_lt phase (at + size)
    && nat_lt at (phase + total)

-- the part of a dash that lies on the line
abbrev pub dash_on : ℕ → ℕ → ℕ → ℕ → Dash
dash_on phase total at size = record { from = at - phase; to = min (at + size - phase) total; is_dot = size == 0 }

-- the dash of an element, if it is one and is made
abbrev pub dash_of : ℕ → ℕ → Bool → ℕ → ℕ → List Dash
dash_of phase total is_dash at size = if is_dash && is_made phase total at size then dash_on phase total at size
    ∷ [] else []

-- the dashes of elements that take turns from a distance on
abbrev pub dashes_from : ℕ → ℕ → Bool → ℕ → List ℕ → List Dash
dashes_from phase total is_dash at [] = []
dashes_from phase total is_dash at (size ∷ rest) =
    dash_of phase total is_dash at size ++ dashes_from phase total (not is_dash) (at + size) rest

-- the dashes of a cycle that begins at a distance
abbrev pub cycle_dashes : ℕ → ℕ → List ℕ → ℕ → List Dash
cycle_dashes phase total dashes at =
    dashes_from phase total true at dashes ++
    (if is_even dashes then [] else dashes_from phase total false (at + sum dashes) dashes)

-- how many cycles begin on a line or at its end, the first among them
abbrev pub cycles_of : ℕ → ℕ → List ℕ → ℕ
cycles_of phase total dashes = (phase + total) / cycle_length dashes + 1

-- the dashes of a line of this length, in order
abbrev pub dashes_by : ℕ → ℕ → List ℕ → List Dash
dashes_by phase total dashes =
    flat_map (λ k. cycle_dashes phase total dashes (k * cycle_length dashes))
    (range_with_len 0 (cycles_of phase total dashes))

-- a place on a segment, by the distance from the segment's start
pub record LinePlace : Type 0 where
  pub segment : LineSegmentValue
  pub distance : ℕ

-- the place on a segment at a distance from its start
abbrev pub place_on : LineSegmentValue → ℕ → LinePlace
place_on s distance = record { segment = s; distance = distance }

-- the first segment that reaches so far; at a corner it is the one that ends there
abbrev pub place_from : LineSegmentValue → List LineSegmentValue → ℕ → LinePlace
place_from s [] distance = place_on s distance
place_from s (next ∷ rest) distance =
    if nat_le distance (fine_length_of s) then place_on s distance
    else place_from next rest (distance - fine_length_of s)

-- the corners strictly between two distances; a distance that was passed counts as 0 from there on, and
-- the end of a line is no corner
abbrev pub corners_from : LineSegmentValue → List LineSegmentValue → ℕ → ℕ → List PointValue
corners_from s [] from to = []
corners_from s (next ∷ rest) from to =
    (if nat_lt from (fine_length_of s) && nat_lt (fine_length_of s) to then s.to ∷ [] else [])
    ++ corners_from next rest (from - fine_length_of s) (to - fine_length_of s)

-- how far a segment has gone along an axis at a distance, rounded once
abbrev pub way_of : ℤ → ℕ → ℕ → ℤ
way_of step distance whole = div_round (step *ℤ pos distance) (pos whole)

-- the point at a place
abbrev pub point_at : LinePlace → PointValue
point_at place = record {
  x = place.segment.from.x +ℤ way_of (step_x place.segment) place.distance (fine_length_of place.segment);
  y = place.segment.from.y +ℤ way_of (step_y place.segment) place.distance (fine_length_of place.segment);
}

-- the points of a dash: where it begins, the corners that it passes, where it ends
abbrev pub dash_points : LineSegmentValue → List LineSegmentValue → ℕ → ℕ → List PointValue
dash_points s rest from to =
    point_at (place_from s rest from) ∷ corners_from s rest from to ++ point_at (place_from s rest to) ∷ []

-- what a dash of length 0 paints: nothing under a butt cap, a disc under a round one, both square caps of its segment
-- under a square one
abbrev pub dot_dash : Cap → ℤ → LinePlace → List Shape
dot_dash Butt half place = []
dot_dash Round half place = disc_at half (point_at place) ∷ []
dot_dash Square half place =
    square_end (point_at place) (across half place.segment) (along half place.segment)
    ∷ square_start (point_at place) (across half place.segment) (along half place.segment)
    ∷ []

-- what a dash paints: one of length 0 by its cap, any other as an open line
abbrev pub dash_shapes : PenValue → LineSegmentValue → List LineSegmentValue → Dash → List Shape
dash_shapes pen s rest dash =
    if dash.is_dot then dot_dash pen.cap pen.half (place_from s rest dash.from)
    else line_shapes pen (record { points = dash_points s rest dash.from dash.to; closed = false })

-- the length of a chain: that of all its segments
abbrev pub total_of : List LineSegmentValue → ℕ
total_of [] = 0
total_of (s ∷ rest) = fine_length_of s + total_of rest

-- the dashes of a line; one whose points are all the same has none
abbrev pub dashes_of : PenValue → List LineSegmentValue → List Dash
dashes_of pen [] = []
dashes_of pen (s ∷ rest) = dashes_by (phase_of pen.dashes pen.offset) (total_of (s ∷ rest)) pen.dashes

-- the shapes of the dashes of a chain
abbrev pub chain_shapes : PenValue → LineSegmentValue → List LineSegmentValue → List Shape
chain_shapes pen s rest = flat_map (dash_shapes pen s rest) (dashes_of pen (s ∷ rest))

-- the shapes of a line under a pen with dashes
abbrev pub dashed_by : PenValue → PolylineValue → List LineSegmentValue → List Shape
dashed_by pen line [] = dot pen line.points line.closed
dashed_by pen line (s ∷ rest) = chain_shapes pen s rest

-- the shapes of a line under a pen with dashes; a line whose points are all the same is painted as one point
unfoldable pub dashed_shapes : PenValue → PolylineValue → List Shape
dashed_shapes pen line = dashed_by pen line (segments_of line)

-- the dashes of a line
unfoldable pub line_dashes : PenValue → PolylineValue → List Dash
line_dashes pen line = dashes_of pen (segments_of line)

-- how many dashes lines have under a pen, which has none where it is solid
abbrev pub dash_count : PenValue → List PolylineValue → ℕ
dash_count pen lines = if is_solid pen.dashes then 0 else length (flat_map (line_dashes pen) lines)

-- the shapes of a stroke: those of its lines, in order, solid or dashed by the pen
abbrev pub outline_of : PenValue → List PolylineValue → List Shape
outline_of pen lines = flat_map (if is_solid pen.dashes then line_shapes pen else dashed_shapes pen) lines
