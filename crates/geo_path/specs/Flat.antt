-- Flattened paths (PostScript Language Reference, third edition, 8.2 `flattenpath`).
use Rattle.std.specs.Prelude.{ℕ, Bool, List, [], ◌∷◌, ◌++◌, length, map}
use Rattle.std.specs.List.{All, sum_by}
use Rattle.press_fault.specs.Plane.{PointValue}
use Rattle.geo_matrix.specs.Affine.{IsNear}
use Rattle.geo_path.specs.declared.segment.Segment.{Segment}
use Rattle.geo_path.specs.declared.segment.Segment.TheVariants.{Line, Curve}
use Rattle.geo_path.specs.Path.{SubpathValue, PathValue, end_of, subpaths_of}
use Rattle.geo_path.specs.Curve.{curve_points}

-- a chain of straight lines, and whether it is closed
pub record PolylineValue : Type 0 where
  pub points : List PointValue
  pub closed : Bool

-- each point is one that a path may have
abbrev pub IsNearLine : PolylineValue → Type 0
IsNearLine line = All IsNear line.points

-- the points that a segment adds, from where it begins
abbrev pub added_by : PointValue → Segment → List PointValue
added_by at (Line p) = p ∷ []
added_by at (Curve q r s) = curve_points at q r s

-- the points that segments add, one after the other
abbrev pub added_from : PointValue → List Segment → List PointValue
added_from at [] = []
added_from at (segment ∷ rest) = added_by at segment ++ added_from (end_of segment) rest

-- a subpath as a chain of straight lines
abbrev pub flat : SubpathValue → PolylineValue
flat s = record { points = s.start ∷ added_from s.start s.segments; closed = s.closed }

-- a path as chains of straight lines, one for each subpath
abbrev pub lines_of : PathValue → List PolylineValue
lines_of path = map flat (subpaths_of path)

-- how many points flattened lines have
abbrev pub points_in : List PolylineValue → ℕ
points_in lines = sum_by (λ line. length line.points) lines

-- the rings of a polygon of these lines: each is closed, as `fill` takes it
abbrev pub rings_of : List PolylineValue → List (List PointValue)
rings_of lines = map (λ line. line.points) lines
