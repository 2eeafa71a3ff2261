-- The points of a path that count, and which points are near.
use Rattle.std.proofs.Common.{◌≡◌, ℕ, ◌+◌, ◌-◌, ◌<◌, ◌≤◌, arith, refl, sym, subst, Bool, true, false, List, [], ◌∷◌}
use Rattle.std.proofs.Common.{◌++◌, map, length, Option, Some, None, if◌then◌else◌}
use Rattle.std.specs.List.{sum_by}
use Rattle.std.proofs.lemmas.List.Sums.{sum_by-append, sum_by-cons}
use Rattle.proof_words.proofs.Cases.{by_bool}
use Rattle.geo_path.specs.declared.segment.Segment.TheVariants.{Line}
use Rattle.geo_path.specs.Arc.{room_of, chain_of, traced_in, traced}
use Rattle.press_fault.specs.Plane.{PointValue}
use Rattle.geo_path.specs.declared.segment.Segment.{Segment}
use Rattle.geo_path.specs.Path.{SubpathValue, PathValue, HasCount, subpaths_of, segment_count, subpath_count, count_of}
use Rattle.geo_path.specs.Path.{moved, drawn_after, drawn_in}

-- one more where the subpath is closed: its start begins another
abbrev pub restart : Bool → ℕ
restart closed = if closed then 1 else 0

pub count_moved : (path : PathValue) (p : PointValue) → count_of (moved path p) ≡ count_of path + 1
count_moved path p = rw (sum_by-append subpath_count (subpaths_of path) _) (omega arith)

count_last : (before : List SubpathValue) (s : SubpathValue) →
    sum_by subpath_count (before ++ s ∷ []) ≡ sum_by subpath_count before + subpath_count s
count_last before s = rw (sum_by-append subpath_count before (s ∷ [])) (omega arith)

count_drawn_at : (before : List SubpathValue) (start : PointValue) (segments : List Segment) (closed : Bool)
    (more : List Segment)
    → count_of (drawn_after before (record { start = start; segments = segments; closed = closed }) more)
    ≡ sum_by subpath_count before + (1 + sum_by segment_count segments) + sum_by segment_count more + restart closed
count_drawn_at before start segments true more =
    rw (
      count_last (before ++ record { start = start; segments = segments; closed = true } ∷ [])
          (record { start = start; segments = more; closed = false }),
      count_last before (record { start = start; segments = segments; closed = true }),
    ) (omega arith)
count_drawn_at before start segments false more =
    rw (
      count_last before (record { start = start; segments = segments ++ more; closed = false }),
      sum_by-append segment_count segments more,
    ) (omega arith)

-- segments add their points, and a restart one more
pub count_drawn : (before : List SubpathValue) (s : SubpathValue) (more : List Segment)
    → count_of (drawn_after before s more) ≡ sum_by subpath_count before + subpath_count s + sum_by segment_count more
    + restart s.closed
count_drawn before s more = count_drawn_at before s.start s.segments s.closed more

lines_count : (points : List PointValue) → sum_by segment_count (map Line points) ≡ length points
lines_count [] = refl
lines_count (p ∷ points) = rw (sum_by-cons segment_count (Line p) (map Line points), lines_count points) (omega arith)

chain_count : (points : List PointValue) → 0 < length points → subpath_count (chain_of points) ≡ length points
chain_count [] h = absurd (omega (arith, h))
chain_count (p ∷ points) h = rw (lines_count points) (omega arith)

traced_counted : (before : List SubpathValue) (last : Option SubpathValue) (points : List PointValue) (count room : ℕ)
    → room ≡ 65536 - count_of (drawn_in before last []) → 0 < length points → length points ≤ room →
    count ≡ 65536 - room + length points
    → HasCount count (traced_in before last points)
traced_counted before None points count room r some few c = record {
  count_is = rw (count_last before (chain_of points), chain_count points some)
      (omega (arith, r, some, few, c, sum_by-append subpath_count before []));
  few = omega (arith, few, c);
}
traced_counted before (Some s) points count room r some few c = record {
  count_is = rw (count_drawn before s (map Line points), lines_count points)
      (omega (arith, r, some, few, c, count_drawn before s []));
  few = omega (arith, few, c);
}

-- a path's limit, 65,536 points, holds of a path traced through points that there is room for; its count is the one
-- that was kept
pub trace_counted : (path next : PathValue) (points : List PointValue) (count room : ℕ) → room ≡ room_of path →
    0 < length points → length points ≤ room
    → count ≡ 65536 - room + length points → next ≡ traced path points → HasCount count next
trace_counted path next points count room r some few c e = subst (λ (p : PathValue). HasCount count p) (sym e)
    (traced_counted path.before path.last points count room r some few c)
