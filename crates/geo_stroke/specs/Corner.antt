-- Joins at the corners of lines (PostScript Language Reference, third edition, 8.2 `setlinejoin`,
-- `setmiterlimit`). A corner stands where a segment `a` ends and a segment `b` begins. Own rules: a
-- corner that goes straight on or straight back has a round join or none; a bevel is the triangle
-- between the outer sides and the corner; the miter limit counts up to 1024; a miter asks besides that
-- the outer sides meet in front of the corner, at most 2048 times half a width away along each axis.
use Rattle.std.specs.Prelude.{ℕ, ◌*◌, ◌^◌, ◌==◌, Bool, ◌&&◌, nat_le, ℤ, pos, ◌+ℤ◌, ◌-ℤ◌, ◌*ℤ◌, int_le, int_lt}
use Rattle.std.specs.Prelude.{unsigned_abs, List, [], ◌∷◌, if◌then◌else◌}
use Rattle.press_nums.specs.Rounding.{div_round}
use Rattle.press_fault.specs.Plane.{PointValue}
use Rattle.page_model.specs.declared.shape.Shape.{Shape}
use Rattle.page_model.specs.declared.shape.Shape.TheVariants as shape
use Rattle.geo_stroke.specs.declared.pen.Join.{Join}
use Rattle.geo_stroke.specs.declared.pen.Join.TheVariants.{Miter, Round, Bevel}
use Rattle.geo_stroke.specs.Pen.{PenValue}
use Rattle.geo_stroke.specs.Segment.{LineSegmentValue, step_x, step_y, length_of, across, plus, turned}

-- a polygon of one ring
abbrev pub polygon : List PointValue → Shape
polygon points = shape.Poly (points ∷ [])

-- the pen's own disc round a point
abbrev pub disc_at : ℤ → PointValue → Shape
disc_at half p = shape.Disc (record { x = p.x; y = p.y; r = unsigned_abs half })

-- the cross product of two segments: above 0 where the line turns clockwise on the page
abbrev pub cross_of : LineSegmentValue → LineSegmentValue → ℤ
cross_of a b = step_x a *ℤ step_y b -ℤ step_y a *ℤ step_x b

-- the scalar product of two segments
abbrev pub scalar_of : LineSegmentValue → LineSegmentValue → ℤ
scalar_of a b = step_x a *ℤ step_x b +ℤ step_y a *ℤ step_y b

-- whether the line goes straight on or straight back
abbrev pub is_straight : LineSegmentValue → LineSegmentValue → Bool
is_straight a b = unsigned_abs (cross_of a b) == 0

-- a vector across a segment, to the outer side of the corner
abbrev pub outward : LineSegmentValue → LineSegmentValue → PointValue → PointValue
outward a b v = if int_lt (pos 0) (cross_of a b) then turned v else v

-- the triangle of the corner and the ends of the outer sides
abbrev pub bevel : ℤ → LineSegmentValue → LineSegmentValue → Shape
bevel half a b =
    polygon (a.to ∷ plus a.to (outward a b (across half a)) ∷ plus a.to (outward a b (across half b)) ∷ [])

-- the miter limit by its raw value, at most 1024
abbrev pub limit_of : ℤ → ℤ
limit_of miter = if int_le miter (pos (1024 * 65536)) then miter else pos (1024 * 65536)

-- whether a miter is within the limit m: m^2 (1 + cos t) is at least 2, where the line turns by t;
-- m counts 1/65536, so m^2 counts 1/2^32
abbrev pub is_within : ℤ → LineSegmentValue → LineSegmentValue → Bool
is_within m a b =
    int_le (pos (2 * 2 ^ 32 * (length_of a * length_of b)))
    (m *ℤ m *ℤ (pos (length_of a * length_of b) +ℤ scalar_of a b))

-- half a width squared, and the scalar product of two vectors across: above 0 where the sides meet in front
abbrev pub spread_of : ℤ → PointValue → PointValue → ℤ
spread_of half n o = half *ℤ half +ℤ (n.x *ℤ o.x +ℤ n.y *ℤ o.y)

-- one coordinate of the way from the corner to where the outer sides meet
abbrev pub meet_of : ℤ → ℤ → ℤ → ℤ
meet_of half sum spread = div_round (sum *ℤ (half *ℤ half)) spread

-- the way from the corner to where the outer sides meet, by two vectors across
abbrev pub meeting_of : ℤ → PointValue → PointValue → PointValue
meeting_of half n o = record {
  x = meet_of half (n.x +ℤ o.x) (spread_of half n o);
  y = meet_of half (n.y +ℤ o.y) (spread_of half n o);
}

-- the way from the corner to where the outer sides meet, by the vectors across both segments
abbrev pub meeting : ℤ → LineSegmentValue → LineSegmentValue → PointValue
meeting half a b = meeting_of half (across half a) (across half b)

-- whether a vector is at most so long along each axis
abbrev pub is_short : ℕ → PointValue → Bool
is_short most v = nat_le (unsigned_abs v.x) most && nat_le (unsigned_abs v.y) most

-- whether the corner has a miter: it is within the limit, and the sides meet in front, at most 2048 half widths away
abbrev pub has_miter : PenValue → LineSegmentValue → LineSegmentValue → Bool
has_miter pen a b =
    is_within (limit_of pen.miter) a b
    && int_lt (pos 0) (spread_of pen.half (across pen.half a) (across pen.half b))
    && is_short (2048 * unsigned_abs pen.half) (meeting pen.half a b)

-- the polygon of the corner, the ends of the outer sides, and where they meet
abbrev pub miter : ℤ → LineSegmentValue → LineSegmentValue → Shape
miter half a b = polygon (a.to
    ∷ plus a.to (outward a b (across half a))
    ∷ plus a.to (outward a b (meeting half a b))
    ∷ plus a.to (outward a b (across half b))
    ∷ [])

-- what a round, bevel or miter join paints at a corner: a bevel where there is no miter, and only a round one straight
-- on or back
abbrev pub join_shapes_by : Join → PenValue → LineSegmentValue → LineSegmentValue → List Shape
join_shapes_by Round pen a b = disc_at pen.half a.to ∷ []
join_shapes_by Bevel pen a b = if is_straight a b then [] else bevel pen.half a b ∷ []
join_shapes_by Miter pen a b =
    if is_straight a b then [] else (if has_miter pen a b then miter pen.half a b else bevel pen.half a b) ∷ []

-- what the pen's join paints at the corner of two segments
abbrev pub join_shapes : PenValue → LineSegmentValue → LineSegmentValue → List Shape
join_shapes pen a b = join_shapes_by pen.join pen a b
