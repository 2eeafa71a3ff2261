-- The points of an arc, one by one.
use Rattle.std.proofs.Common.{◌≡◌, ℕ, zero, suc, ◌+◌, ◌-◌, ◌<◌, ◌≤◌, arith, ap, refl, subst, List, [], ◌∷◌, map, length}
use Rattle.std.proofs.Common.{drop, ◌∙◌, Some, Result, Ok, Err, Bool}
use Rattle.std.specs.Prelude.{ℤ, slice_get}
use Rattle.press_fault.specs.Plane.{PointValue}
use Rattle.geo_path.specs.declared.arc.Circle.{Circle}
use Rattle.geo_path.specs.declared.path.PathFault.{PathFault}
use Rattle.geo_path.specs.declared.path.PathFault.TheVariants.{LimitCheck}
use Rattle.std.proofs.lemmas.List.{length-map}
use Rattle.geo_path.proofs.AngleLemmas.{angles_length}
use Rattle.geo_path.specs.Arc.{angles_of, arc_point, points_within, put_before}
use Rattle.geo_path.specs.Code.Points.{points_from}

drop_at : {X Y : Type 0} (f : X → Y) (xs : List X) (i : ℕ) (x : X) → slice_get xs i ≡ Some x → drop i (map f xs) ≡ f x
    ∷ drop (suc i) (map f xs)
drop_at f [] i x h = absurd (cc)
drop_at f (y ∷ xs) zero x h = ap (λ z. f z ∷ map f xs) (cc)
drop_at f (y ∷ xs) (suc i) x h = drop_at f xs i x h

at_place : (circle : Circle) (angles : List ℤ) (room i : ℕ) (angle : ℤ) (point : Result PointValue PathFault) →
    slice_get angles i ≡ Some angle
    → point ≡ arc_point circle.m circle.x circle.y circle.r angle
    → points_from circle angles room i ≡ points_within (room - i)
    (point ∷ drop (suc i) (map (arc_point circle.m circle.x circle.y circle.r) angles))
at_place circle angles room i angle point h e =
    rw e (ap (points_within (room - i)) (drop_at (arc_point circle.m circle.x circle.y circle.r) angles i angle h))

-- an angle whose point is refused refuses the rest by the same fault
pub refused_point : (circle : Circle) (angles : List ℤ) (room i : ℕ) (angle : ℤ) (fault : PathFault) →
    slice_get angles i ≡ Some angle
    → Err fault ≡ arc_point circle.m circle.x circle.y circle.r angle → points_from circle angles room i ≡ Err fault
refused_point circle angles room i angle fault h e = at_place circle angles room i angle (Err fault) h e

-- a point that there is no room for is limitcheck
pub no_room : (circle : Circle) (angles : List ℤ) (room i : ℕ) (angle : ℤ) (p : PointValue) →
    slice_get angles i ≡ Some angle
    → Ok p ≡ arc_point circle.m circle.x circle.y circle.r angle → room ≤ i →
    points_from circle angles room i ≡ Err LimitCheck
no_room circle angles room i angle p h e g =
    let none : room - i ≡ 0 = omega (arith, g) in
    at_place circle angles room i angle (Ok p) h e ∙ rw none refl

-- a point that there is room for stands in front of those of the angles behind it
pub one_point : (circle : Circle) (angles : List ℤ) (room i : ℕ) (angle : ℤ) (p : PointValue) →
    slice_get angles i ≡ Some angle
    → Ok p ≡ arc_point circle.m circle.x circle.y circle.r angle → i < room
    → points_from circle angles room i ≡ put_before p (points_from circle angles room (i + 1))
one_point circle angles room i angle p h e g =
    let some : room - i ≡ suc (room - suc i) = omega (arith, g) in
    let next : suc i ≡ i + 1 = omega arith in
    subst (λ (j : ℕ). points_from circle angles room i ≡ put_before p (points_from circle angles room j)) next
    (at_place circle angles room i angle (Ok p) h e ∙ rw some refl)

-- as many points as there are angles, and no more than there is room for
pub record IsCounted (count room : ℕ) (points : List PointValue) : Type 0 where
  pub same : length points ≡ count
  pub few : length points ≤ room

put_counted : (p : PointValue) (count room : ℕ) (behind : Result (List PointValue) PathFault) (points : List PointValue)
    → ((more : List PointValue) → behind ≡ Ok more → IsCounted count room more) → put_before p behind ≡ Ok points →
    IsCounted (suc count) (suc room) points
put_counted p count room (Ok more) points f e =
    let h = f more refl in
    let is : p ∷ more ≡ points = cc in
    subst (λ (l : List PointValue). IsCounted (suc count) (suc room) l) is
    (record { same = omega (arith, h.same); few = omega (arith, h.few) })
put_counted p count room (Err fault) points f e = absurd (cc)

pub points_counted : (room : ℕ) (all : List (Result PointValue PathFault)) (points : List PointValue) →
    points_within room all ≡ Ok points → IsCounted (length all) room points
points_counted room [] points e =
    let is : [] ≡ points = cc in
    subst (λ (l : List PointValue). IsCounted 0 room l) is (record { same = refl; few = omega arith })
points_counted room (Err fault ∷ rest) points e = absurd (cc)
points_counted zero (Ok p ∷ rest) points e = absurd (cc)
points_counted (suc room) (Ok p ∷ rest) points e =
    put_counted p (length rest) room (points_within room rest) points (λ more h. points_counted room rest more h) e

-- the points of a whole arc: one at least, and as many as there is room for
pub whole_arc : (circle : Circle) (clockwise : Bool) (from to : ℤ) (angles : List ℤ) (room : ℕ)
    (items points : List PointValue)
    → angles ≡ angles_of clockwise from to → points_from circle angles room 0 ≡ Ok items → points ≡ items →
    (0 < length points) × (length points ≤ room)
whole_arc circle clockwise from to angles room items points a e p =
    let same : room - 0 ≡ room = omega arith in
    let counted = points_counted room (map (arc_point circle.m circle.x circle.y circle.r) angles) items
    (subst (λ (n : ℕ). points_within n (map (arc_point circle.m circle.x circle.y circle.r) angles)
    ≡ Ok items) same e) in (
      omega (
        arith,
        ap length a,
        angles_length clockwise from to,
        ap length p,
        counted.same,
        length-map angles (arc_point circle.m circle.x circle.y circle.r),
      ),
      omega (arith, ap length p, counted.few),
    )
