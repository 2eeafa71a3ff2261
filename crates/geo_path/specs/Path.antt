-- Paths (PostScript Language Reference, third edition, 4.4 Path Construction), by points in sub-dots.
-- Own rule: a path has at most 65,536 points, each of a magnitude below 2^31; a move after a move
-- starts one more subpath, of one point.
use Rattle.std.specs.Prelude.{◌≡◌, ℕ, ◌+◌, ◌≤◌, nat_le, Bool, true, false, ◌&&◌, List, [], ◌∷◌, ◌++◌, Option, Some}
use Rattle.std.specs.Prelude.{None, Result, Ok, Err, if◌then◌else◌}
use Rattle.std.specs.List.{fold, sum_by, All}
use Rattle.std.specs.Option.{option_map, option_to_list}
use Rattle.press_fault.specs.Plane.{PointValue}
use Rattle.geo_matrix.specs.Affine.{IsNear, is_near}
use Rattle.geo_path.specs.declared.segment.Segment.{Segment}
use Rattle.geo_path.specs.declared.segment.Segment.TheVariants.{Line, Curve}
use Rattle.geo_path.specs.declared.path.PathFault.{PathFault}
use Rattle.geo_path.specs.declared.path.PathFault.TheVariants.{NoCurrentPoint, LimitCheck}

-- a subpath: its first point, what goes on from there, and whether `closepath` closed it
pub record SubpathValue : Type 0 where
  pub start : PointValue
  pub segments : List Segment
  pub closed : Bool

-- a path: the subpaths before the last, and the last one, if there is any
pub record PathValue : Type 0 where
  pub before : List SubpathValue
  pub last : Option SubpathValue

-- the subpaths in order
abbrev pub subpaths_of : PathValue → List SubpathValue
subpaths_of path = path.before ++ option_to_list path.last

-- where a segment ends
abbrev pub end_of : Segment → PointValue
end_of (Line p) = p
end_of (Curve q r s) = s

-- where segments that begin at a point end
abbrev pub end_from : PointValue → List Segment → PointValue
end_from at segments = fold (λ here segment. end_of segment) at segments

-- the current point of a subpath: where it ends, and its start once it is closed
abbrev pub subpath_current : SubpathValue → PointValue
subpath_current s = if s.closed then s.start else end_from s.start s.segments

-- the current point: where the last subpath ends, and its start once it is closed; none without a subpath
abbrev pub current_of : PathValue → Option PointValue
current_of path = option_map subpath_current path.last

-- the points of a segment that count against the limit: a line has one and a curve three
abbrev pub segment_count : Segment → ℕ
segment_count (Line p) = 1
segment_count (Curve q r s) = 3

-- the points of a subpath that count: its start, and those of its segments
abbrev pub subpath_count : SubpathValue → ℕ
subpath_count s = 1 + sum_by segment_count s.segments

-- the points of a path that count: 1 for each start and each line, 3 for each curve
abbrev pub count_of : PathValue → ℕ
count_of path = sum_by subpath_count (subpaths_of path)

-- what a path keeps: its count, which is at most 65,536
pub record HasCount (count : ℕ) (path : PathValue) : Type 0 where
  pub count_is : count ≡ count_of path
  pub few : count ≤ 65536

-- each point of a segment is one that a path may have
abbrev pub IsNearSegment : Segment → Type 0
IsNearSegment (Line p) = IsNear p
IsNearSegment (Curve q r s) = IsNear q × IsNear r × IsNear s

-- each point of a subpath is one that a path may have
pub record IsNearSubpath (s : SubpathValue) : Type 0 where
  pub start : IsNear s.start
  pub segments : All IsNearSegment s.segments

-- what a subpath keeps: its points are near, and its segments end where it says
pub record IsPathKept (end : PointValue) (s : SubpathValue) : Type 0 where
  pub near : IsNearSubpath s
  pub end_is : end ≡ end_from s.start s.segments

-- the subpath that a move starts
abbrev pub opened : PointValue → SubpathValue
opened p = record { start = p; segments = []; closed = false }

-- the path after a move, which starts a subpath
abbrev pub moved : PathValue → PointValue → PathValue
moved path p = record { before = subpaths_of path; last = Some (opened p) }

-- a subpath with segments more, which leave it open
abbrev pub continued : SubpathValue → List Segment → SubpathValue
continued s more = record { start = s.start; segments = s.segments ++ more; closed = false }

-- the path with these segments after its last subpath: they go on in it; where it is closed they start one at its start
abbrev pub drawn_after : List SubpathValue → SubpathValue → List Segment → PathValue
drawn_after before s more =
    if s.closed
    then record { before = before ++ s ∷ []; last = Some (continued (opened s.start) more) }
    else record { before = before; last = Some (continued s more) }

-- the path with these segments; without a current point it stays
abbrev pub drawn_in : List SubpathValue → Option SubpathValue → List Segment → PathValue
drawn_in before None more = record { before = before; last = None }
drawn_in before (Some s) more = drawn_after before s more

-- the path with these segments, by its parts; without a current point it stays
abbrev pub drawn : PathValue → List Segment → PathValue
drawn path more = drawn_in path.before path.last more

-- a subpath after `closepath`
abbrev pub closed_subpath : SubpathValue → SubpathValue
closed_subpath s = record { start = s.start; segments = s.segments; closed = true }

-- the path after `closepath`, which closes the last subpath, if there is one
abbrev pub closed : PathValue → PathValue
closed path = record { before = path.before; last = option_map closed_subpath path.last }

-- the path, where its new points are near and it has at most 65,536 points, else limitcheck
abbrev pub within : Bool → PathValue → Result PathValue PathFault
within near path = if near && nat_le (count_of path) 65536 then Ok path else Err LimitCheck

-- the answer of a call that needs a current point, else nocurrentpoint
abbrev pub from_current : Option SubpathValue → Result PathValue PathFault → Result PathValue PathFault
from_current None answer = Err NoCurrentPoint
from_current (Some s) answer = answer

-- what a move answers: the new path, or limitcheck
abbrev pub move_of : PathValue → PointValue → Result PathValue PathFault
move_of path p = within (is_near p) (moved path p)

-- what a segment answers: no current point comes first, and then limitcheck for a point too far or too many points
abbrev pub segment_of : PathValue → Bool → Segment → Result PathValue PathFault
segment_of path near segment = from_current path.last (within near (drawn path (segment ∷ [])))

-- what a line to a point answers: the new path, or its refusal
abbrev pub line_of : PathValue → PointValue → Result PathValue PathFault
line_of path p = segment_of path (is_near p) (Line p)

-- what a curve by its last three control points answers: the new path, or its refusal
abbrev pub curve_of : PathValue → PointValue → PointValue → PointValue → Result PathValue PathFault
curve_of path q r s = segment_of path (is_near q && is_near r && is_near s) (Curve q r s)
