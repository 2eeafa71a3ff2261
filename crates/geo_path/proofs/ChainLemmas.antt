-- The flattened points of lines are the points that the lines go to.
use Rattle.std.proofs.Common.{◌≡◌, List, [], ◌∷◌, ◌++◌, map, ap, sym, refl, ◌∙◌, append_assoc, false}
use Rattle.press_fault.specs.Plane.{PointValue}
use Rattle.geo_path.specs.declared.segment.Segment.{Segment}
use Rattle.geo_path.specs.declared.segment.Segment.TheVariants.{Line}
use Rattle.geo_path.specs.Path.{end_of}
use Rattle.geo_path.specs.Flat.{PolylineValue, added_by, added_from, flat}
use Rattle.geo_path.specs.Arc.{chain_of}

pub chain_points : (at : PointValue) (points : List PointValue) → added_from at (map Line points) ≡ points
chain_points at [] = refl
chain_points at (p ∷ points) = ap (λ rest. p ∷ rest) (chain_points p points)

-- behind other segments
pub points_behind : (at : PointValue) (segments : List Segment) (points : List PointValue) →
    added_from at (segments ++ map Line points) ≡ added_from at segments ++ points
points_behind at [] points = chain_points at points
points_behind at (segment ∷ more) points =
    ap (λ rest. added_by at segment ++ rest) (points_behind (end_of segment) more points)
    ∙ sym (append_assoc (added_by at segment) (added_from (end_of segment) more) points)

-- an open line from a point
abbrev open_line : PointValue → List PointValue → PolylineValue
open_line p rest = record { points = p ∷ rest; closed = false }

-- a chain of lines through points is, flattened, an open line of just these points
pub chain_flat : (p : PointValue) (points : List PointValue) →
    flat (chain_of (p ∷ points)) ≡ record { points = p ∷ points; closed = false }
chain_flat p points = ap (open_line p) (chain_points p points)
