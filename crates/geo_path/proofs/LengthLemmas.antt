-- How many points flattened curves, segments and paths have.
use Rattle.std.proofs.Common.{◌≡◌, ◌∙◌, length}
use Rattle.std.specs.List.{range_with_len}
use Rattle.std.proofs.lemmas.List.{length-map}
use Rattle.std.proofs.lemmas.List.FromFn.{length-range_with_len}
use Rattle.press_fault.specs.Plane.{PointValue}
use Rattle.geo_path.specs.Curve.{control_length, pieces_of, curve_spot, curve_points}

-- how many points a curve adds: as many as it has pieces
pub curve_length : (p0 p1 p2 p3 : PointValue) →
    length (curve_points p0 p1 p2 p3) ≡ pieces_of (control_length p0 p1 p2 p3)
unfolding curve_points
curve_length p0 p1 p2 p3 =
    let n = pieces_of (control_length p0 p1 p2 p3) in
    length-map (range_with_len 1 n) (curve_spot n p0 p1 p2 p3) ∙ length-range_with_len 1 n
