-- Outlines of lines (PostScript Language Reference, third edition, 8.2 `stroke`, `setlinecap`). All
-- polygons of a stroke go by the nonzero winding number rule. Own rules: each segment, join and cap is
-- a shape of its own; the pen is round under every matrix.
use Rattle.std.specs.Prelude.{Bool, ◌||◌, ℤ, List, [], ◌∷◌, ◌++◌, length, map, nat_le, if◌then◌else◌}
use Rattle.press_fault.specs.Plane.{PointValue}
use Rattle.page_model.specs.declared.shape.Shape.{Shape}
use Rattle.geo_path.specs.Flat.{PolylineValue}
use Rattle.geo_stroke.specs.declared.pen.Cap.{Cap}
use Rattle.geo_stroke.specs.declared.pen.Cap.TheVariants.{Butt, Round, Square}
use Rattle.geo_stroke.specs.Pen.{PenValue}
use Rattle.geo_stroke.specs.Segment.{LineSegmentValue, along, across, plus, minus, between, closing, last_of}
use Rattle.geo_stroke.specs.Segment.{segments_of}
use Rattle.geo_stroke.specs.Corner.{polygon, disc_at, join_shapes}

-- a segment as wide as the line, by the vector across it
abbrev pub body_by : LineSegmentValue → PointValue → Shape
body_by s n = polygon (plus s.from n ∷ plus s.to n ∷ minus s.to n ∷ minus s.from n ∷ [])

-- a segment as wide as the pen
abbrev pub body : ℤ → LineSegmentValue → Shape
body half s = body_by s (across half s)

-- the square cap at the end of a line, half a width long, by that end and the vectors across and along the line
abbrev pub square_end : PointValue → PointValue → PointValue → Shape
square_end q n e = polygon (plus q n ∷ plus q (plus n e) ∷ plus q (minus e n) ∷ minus q n ∷ [])

-- the square cap at the start of a line, half a width long
abbrev pub square_start : PointValue → PointValue → PointValue → Shape
square_start p n e = polygon (plus p n ∷ plus p (minus n e) ∷ minus p (plus n e) ∷ minus p n ∷ [])

-- what a cap paints where a line ends with a segment: nothing where it is butt, a disc where it is round, else a square
abbrev pub end_cap : Cap → ℤ → LineSegmentValue → List Shape
end_cap Butt half s = []
end_cap Round half s = disc_at half s.to ∷ []
end_cap Square half s = square_end s.to (across half s) (along half s) ∷ []

-- what a cap paints where a line starts with a segment: nothing where it is butt, a disc where it is round, else a
-- square
abbrev pub start_cap : Cap → ℤ → LineSegmentValue → List Shape
start_cap Butt half s = []
start_cap Round half s = disc_at half s.from ∷ []
start_cap Square half s = square_start s.from (across half s) (along half s) ∷ []

-- the caps of an open line, that at its end first; a closed one has none
abbrev pub caps : PenValue → Bool → LineSegmentValue → List LineSegmentValue → List Shape
caps pen closed s rest =
    if closed then [] else end_cap pen.cap pen.half (last_of s rest) ++ start_cap pen.cap pen.half s

-- a line whose points are all the same: a disc under a round cap, where it is closed or isn't a move alone
abbrev pub dot_by : Cap → ℤ → PointValue → List Shape
dot_by Butt half p = []
dot_by Round half p = disc_at half p ∷ []
dot_by Square half p = []

-- what a line paints whose points are all the same: a disc under a round cap, where it is closed or isn't a move alone
abbrev pub dot : PenValue → List PointValue → Bool → List Shape
dot pen [] closed = []
dot pen (p ∷ rest) closed = if closed || nat_le 1 (length rest) then dot_by pen.cap pen.half p else []

-- the shapes of a line by its segments: their bodies, its joins, its caps
abbrev pub shapes_by : PenValue → PolylineValue → List LineSegmentValue → List Shape
shapes_by pen line [] = dot pen line.points line.closed
shapes_by pen line (s ∷ rest) =
    map (body pen.half) (s ∷ rest)
    ++ between (join_shapes pen) s (rest ++ closing line.closed s)
    ++ caps pen line.closed s rest

-- the shapes of a solid line: the bodies of its segments, then its joins, then its caps
unfoldable pub line_shapes : PenValue → PolylineValue → List Shape
line_shapes pen line = shapes_by pen line (segments_of line)
