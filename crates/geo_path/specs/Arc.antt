-- Arcs of circles (PostScript Language Reference, third edition, 8.2 `arc`, `arcn`). Own rule: an arc
-- is a chain of lines between points of the circle at its start, at each multiple of 360/256 degrees
-- strictly between, and at its end. Angles are in degrees, by raw values.
use Rattle.std.specs.Prelude.{◌≡◌, ℕ, zero, suc, ◌+◌, ◌-◌, ◌≤◌, ◌^◌, ℤ, pos, neg_ℤ, ◌+ℤ◌, ◌-ℤ◌, ◌*ℤ◌, ◌<ℤ◌, ◌≤ℤ◌}
use Rattle.std.specs.Prelude.{int_le, unsigned_abs, Bool, List, [], ◌∷◌, ◌++◌, map, Option, Some, None, Result, Ok, Err}
use Rattle.std.specs.Prelude.{if◌then◌else◌}
use Rattle.std.specs.Int.{int_div_euclid, int_rem_euclid}
use Rattle.std.specs.List.{range_with_len}
use Rattle.std.specs.Option.{option_and_then}
use Rattle.press_fault.specs.Plane.{PointValue}
use Rattle.press_nums.specs.Fix.{IsFix, fix_of, product_of}
use Rattle.geo_matrix.specs.Affine.{MatrixValue, dots_of}
use Rattle.geo_matrix.specs.Sine.{sine_of, cosine_of}
use Rattle.geo_path.specs.declared.segment.Segment.TheVariants.{Line}
use Rattle.geo_path.specs.declared.path.PathFault.{PathFault}
use Rattle.geo_path.specs.declared.path.PathFault.TheVariants.{UndefinedResult, LimitCheck}
use Rattle.geo_path.specs.Path.{SubpathValue, PathValue, count_of, drawn, drawn_after, opened, continued}

-- what is left of an angle by whole turns, from 0 up to and without 360 degrees
abbrev pub turn_rest : ℤ → ℕ
turn_rest angle = unsigned_abs (int_rem_euclid angle (pos 23592960))

-- the end of an arc: raised by whole turns to the first angle that isn't less than the start, or
-- lowered likewise where the arc runs clockwise; an end on the right side stays
abbrev pub end_angle : Bool → ℤ → ℤ → ℤ
end_angle clockwise from to =
    if clockwise
    then (if int_le to from then to else from -ℤ pos (turn_rest (from -ℤ to)))
    else (if int_le from to then to else from +ℤ pos (turn_rest (to -ℤ from)))

-- the number of the first multiple of the step above an angle
abbrev pub first_above : ℤ → ℤ
first_above angle = int_div_euclid angle (pos 92160) +ℤ pos 1

-- the number of the last multiple of the step below an angle
abbrev pub last_below : ℤ → ℤ
last_below angle = neg_ℤ (first_above (neg_ℤ angle))

-- how many whole numbers there are from first to last
abbrev pub span : ℤ → ℤ → ℕ
span first last = if int_le first last then unsigned_abs (last -ℤ first) + 1 else 0

-- how many multiples of the step lie strictly between two angles
abbrev pub between_of : Bool → ℤ → ℤ → ℕ
between_of clockwise from to =
    if clockwise then span (first_above to) (last_below from) else span (first_above from) (last_below to)

-- each of these multiples by its place, from 0, in the order from the start on
abbrev pub multiple_at : Bool → ℤ → ℕ → ℤ
multiple_at clockwise from i =
    if clockwise then (last_below from -ℤ pos i) *ℤ pos 92160 else (first_above from +ℤ pos i) *ℤ pos 92160

-- the multiples of the step strictly between two angles, from the start on
abbrev pub multiples_of : Bool → ℤ → ℤ → List ℤ
multiples_of clockwise from to = map (multiple_at clockwise from) (range_with_len 0 (between_of clockwise from to))

-- an angle that is a multiple of the step and lies strictly between the two
pub record IsBetween (clockwise : Bool) (from to angle : ℤ) : Type 0 where
  pub multiple : (k : ℤ) × (angle ≡ k *ℤ pos 92160)
  pub behind : (if clockwise then angle else from) <ℤ (if clockwise then from else angle)
  pub before : (if clockwise then to else angle) <ℤ (if clockwise then angle else to)

-- an end that an arc reaches from its start
abbrev pub IsOnTheRightSide : Bool → ℤ → ℤ → Type 0
IsOnTheRightSide clockwise from to = (if clockwise then to else from) ≤ℤ (if clockwise then from else to)

-- the angles of an arc's points, in order
abbrev pub angles_of : Bool → ℤ → ℤ → List ℤ
angles_of clockwise from to = from ∷ multiples_of clockwise from to ++ to ∷ []

-- what the angles of an arc keep: how many multiples stand between its ends
pub record HasAngles (between : ℕ) (clockwise : Bool) (from to : ℤ) : Type 0 where
  pub between_is : between ≡ between_of clockwise from to
  pub few : between ≤ 2 ^ 48 + 1
  pub from_fits : IsFix from
  pub to_fits : IsFix to

-- a coordinate of a point of the circle: that of the centre and the product of radius and share, none out of range
abbrev pub offset_by : ℤ → ℤ → ℤ → Option ℤ
offset_by centre radius share = option_and_then (λ offset. fix_of (centre +ℤ offset)) (product_of radius share)

-- a point in sub-dots, else limitcheck
abbrev pub arrives : Option PointValue → Result PointValue PathFault
arrives None = Err LimitCheck
arrives (Some p) = Ok p

-- the point in sub-dots by its two coordinates: undefinedresult where one is no real number, then limitcheck
abbrev pub arc_spot : MatrixValue → Option ℤ → Option ℤ → Result PointValue PathFault
arc_spot m None y = Err UndefinedResult
arc_spot m (Some x) None = Err UndefinedResult
arc_spot m (Some x) (Some y) = arrives (dots_of m x y)

-- the point of a circle at an angle, in sub-dots, or its refusal: real numbers first, then sub-dots
abbrev pub arc_point : MatrixValue → ℤ → ℤ → ℤ → ℤ → Result PointValue PathFault
arc_point m x y r angle = arc_spot m (offset_by x r (cosine_of angle)) (offset_by y r (sine_of angle))

-- a point in front of others, or their refusal
abbrev pub put_before : PointValue → Result (List PointValue) PathFault → Result (List PointValue) PathFault
put_before p (Ok points) = Ok (p ∷ points)
put_before p (Err fault) = Err fault

-- the points in order, or the first refusal, where a point that there is no room for is limitcheck
abbrev pub points_within : ℕ → List (Result PointValue PathFault) → Result (List PointValue) PathFault
points_within room [] = Ok []
points_within room (Err fault ∷ rest) = Err fault
points_within zero (Ok p ∷ rest) = Err LimitCheck
points_within (suc room) (Ok p ∷ rest) = put_before p (points_within room rest)

-- one point more in front of what comes behind it, or its refusal
abbrev pub then_points : Result PointValue PathFault → Result (List PointValue) PathFault →
    Result (List PointValue) PathFault
then_points (Ok p) more = put_before p more
then_points (Err fault) more = Err fault

-- an arc: the points that there is room for, and its points or their refusals in order
pub record ArcValue : Type 0 where
  pub room : ℕ
  pub points : List (Result PointValue PathFault)

-- how many lines the path still has room for: a closed subpath's start counts once more
abbrev pub room_of : PathValue → ℕ
room_of path = 65536 - count_of (drawn path [])

-- a subpath of lines through these points, of which there is one at least
abbrev pub chain_of : List PointValue → SubpathValue
chain_of [] = opened (record { x = pos 0; y = pos 0 })
chain_of (p ∷ points) = continued (opened p) (map Line points)

-- the path with lines through these points; without a current point the first one is a move
abbrev pub traced_in : List SubpathValue → Option SubpathValue → List PointValue → PathValue
traced_in before None points = record { before = before; last = Some (chain_of points) }
traced_in before (Some s) points = drawn_after before s (map Line points)

-- the path with lines through these points, by its parts
abbrev pub traced : PathValue → List PointValue → PathValue
traced path points = traced_in path.before path.last points

-- the path with lines through these points, or their refusal
abbrev pub traced_or : PathValue → Result (List PointValue) PathFault → Result PathValue PathFault
traced_or path (Ok points) = Ok (traced path points)
traced_or path (Err fault) = Err fault

-- what `arc` answers by the end angle: the new path or its first refusal; an end angle out of range is undefinedresult
abbrev pub arc_to : PathValue → MatrixValue → ℤ → ℤ → ℤ → Bool → ℤ → Option ℤ → Result PathValue PathFault
arc_to path m x y r clockwise from None = Err UndefinedResult
arc_to path m x y r clockwise from (Some to) =
    traced_or path (points_within (room_of path) (map (arc_point m x y r) (angles_of clockwise from to)))

-- what `arc` and `arcn` answer, by centre, radius, start, end and direction: the new path, or its first refusal
abbrev pub arc_of : PathValue → MatrixValue → ℤ → ℤ → ℤ → ℤ → ℤ → Bool → Result PathValue PathFault
arc_of path m x y r from to clockwise = arc_to path m x y r clockwise from (fix_of (end_angle clockwise from to))
