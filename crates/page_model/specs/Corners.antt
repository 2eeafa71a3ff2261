-- Rectangles (PostScript Language Reference, third edition, 8.2 `rectfill`). Own rule: the corners go round from the
-- first point along the row, so that each side is level or upright.
use Rattle.std.specs.Prelude.{List, [], ◌∷◌}
use Rattle.press_fault.specs.Plane.{PointValue}

-- the corners of the rectangle that has two opposite ones
abbrev pub corners_of : PointValue → PointValue → List PointValue
corners_of from to = from ∷ record { x = to.x; y = from.y } ∷ to ∷ record { x = from.x; y = to.y } ∷ []
