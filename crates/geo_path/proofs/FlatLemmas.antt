-- A flattened path is as near as the path.
use Rattle.std.proofs.Common.{◌≡◌, ℕ, ◌<◌, ◌≤◌, arith, sym, refl, Bool, true, false, leb, subst, List, [], ◌∷◌, map}
use Rattle.std.proofs.Common.{length}
use Rattle.std.specs.List.{All, range_with_len}
use Rattle.std.proofs.lemmas.List.Elements.{All-append, All-cons, All-nil, All-head, All-tail, All-map}
use Rattle.std.proofs.lemmas.List.FromFn.{length-range_with_len, get_or-range_with_len}
use Rattle.proof_words.proofs.Cases.{by_bool}
use Rattle.press_fault.specs.Plane.{PointValue}
use Rattle.geo_matrix.specs.Affine.{IsNear}
use Rattle.geo_path.specs.declared.segment.Segment.{Segment}
use Rattle.geo_path.specs.declared.segment.Segment.TheVariants.{Line, Curve}
use Rattle.geo_path.specs.Curve.{control_length, pieces_of, curve_spot, curve_points}
use Rattle.geo_path.specs.Path.{SubpathValue, IsNearSegment, IsNearSubpath, end_of, end_from, IsPathKept}
use Rattle.geo_path.specs.Flat.{IsNearLine, added_by, added_from, flat}
use Rattle.geo_path.proofs.CurveLemmas.{curve_near}

-- a curve has at least 8 pieces
pub pieces_some : (length : ℕ) → 8 ≤ pieces_of length
pieces_some length = by_bool (leb length 4096) (λ e. rw e (omega arith)) (λ e. rw e
    (by_bool (leb length 65536) (λ f. rw f (omega arith)) (λ f. rw f
    (by_bool (leb length 1048576) (λ g. rw g (omega arith)) (λ g. rw g (omega arith))))))

spot_near : (n i : ℕ) (p0 p1 p2 p3 : PointValue) → 0 < n → i ≤ n → IsNear p0 → IsNear p1 → IsNear p2 → IsNear p3 →
    IsNear (curve_spot n p0 p1 p2 p3 i)
spot_near n i p0 p1 p2 p3 h w h0 h1 h2 h3 = record {
  x = curve_near n i p0.x p1.x p2.x p3.x h w h0.x h1.x h2.x h3.x;
  y = curve_near n i p0.y p1.y p2.y p3.y h w h0.y h1.y h2.y h3.y;
}

points_near : (n : ℕ) (p0 p1 p2 p3 : PointValue) → 0 < n → IsNear p0 → IsNear p1 → IsNear p2 → IsNear p3 →
    All IsNear (map (curve_spot n p0 p1 p2 p3) (range_with_len 1 n))
points_near n p0 p1 p2 p3 h h0 h1 h2 h3 = All-map IsNear (curve_spot n p0 p1 p2 p3) (range_with_len 1 n)
    (λ k d l. let low : k < n = omega (arith, l, length-range_with_len 1 n) in
    spot_near n _ p0 p1 p2 p3 h (omega (arith, low, get_or-range_with_len 1 n k d low)) h0 h1 h2 h3)

pub curve_points_near : (p0 p1 p2 p3 : PointValue) → IsNear p0 → IsNear p1 → IsNear p2 → IsNear p3 →
    All IsNear (curve_points p0 p1 p2 p3)
unfolding curve_points
curve_points_near p0 p1 p2 p3 h0 h1 h2 h3 =
    points_near (pieces_of (control_length p0 p1 p2 p3)) p0 p1 p2 p3
    (omega (arith, pieces_some (control_length p0 p1 p2 p3))) h0 h1 h2 h3

added_near : (at : PointValue) (segment : Segment) → IsNear at → IsNearSegment segment →
    All IsNear (added_by at segment)
added_near at (Line p) a h = All-cons IsNear p [] h (All-nil IsNear)
added_near at (Curve q r s) a h = curve_points_near at q r s a h.0 h.1 h.2

pub end_near : (segment : Segment) → IsNearSegment segment → IsNear (end_of segment)
end_near (Line p) h = h
end_near (Curve q r s) h = h.2

-- where segments end is near
pub end_from_near : (at : PointValue) (segments : List Segment) → IsNear at → All IsNearSegment segments →
    IsNear (end_from at segments)
end_from_near at [] a h = a
end_from_near at (segment ∷ rest) a h =
    end_from_near (end_of segment) rest (end_near segment (All-head IsNearSegment segment rest h))
    (All-tail IsNearSegment segment rest h)

-- where a subpath ends is near
pub kept_near : (end : PointValue) (s : SubpathValue) → IsPathKept end s → IsNear end
kept_near end s h = subst (λ (p : PointValue). IsNear p) (sym h.end_is)
    (end_from_near s.start s.segments h.near.start h.near.segments)

all_added_near : (at : PointValue) (segments : List Segment) → IsNear at → All IsNearSegment segments →
    All IsNear (added_from at segments)
all_added_near at [] a h = All-nil IsNear
all_added_near at (segment ∷ rest) a h =
    let first = All-head IsNearSegment segment rest h in
    All-append IsNear (added_by at segment) (added_from (end_of segment) rest) (added_near at segment a first)
    (all_added_near (end_of segment) rest (end_near segment first) (All-tail IsNearSegment segment rest h))

pub flat_near : (s : SubpathValue) → IsNearSubpath s → IsNearLine (flat s)
flat_near s h = All-cons IsNear s.start (added_from s.start s.segments) h.start
    (all_added_near s.start s.segments h.start h.segments)

-- the points of a flattened subpath are near
pub flat_points_near : (points : List PointValue) (s : SubpathValue) → points ≡ (flat s).points → IsNearSubpath s →
    All IsNear points
flat_points_near points s e h = subst (λ (p : List PointValue). All IsNear p) (sym e) (flat_near s h)
