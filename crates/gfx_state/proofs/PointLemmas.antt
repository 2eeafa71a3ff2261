-- The points of a filled path.
use Rattle.std.proofs.Common.{◌≡◌, refl, List, [], ◌∷◌, length}
use Rattle.std.proofs.lemmas.List.Sums.{sum_by-cons}
use Rattle.geo_path.specs.Flat.{PolylineValue, rings_of, points_in}
use Rattle.gfx_state.specs.Points.{ring_points}

-- the rings of lines have the points of the lines
pub filled_points : (lines : List PolylineValue) → ring_points (rings_of lines) ≡ points_in lines
filled_points [] = refl
filled_points (line ∷ lines) =
    rw (
      sum_by-cons length line.points (rings_of lines),
      sum_by-cons (λ (l : PolylineValue). length l.points) line lines,
      filled_points lines,
    ) refl
