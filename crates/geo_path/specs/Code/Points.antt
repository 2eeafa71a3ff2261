-- The points of an arc from a place on. Own rule: words of the code alone; Arc has the arc itself.
use Rattle.std.specs.Prelude.{ℕ, ◌-◌, ℤ, List, ◌++◌, drop, map, Result, Ok, Err}
use Rattle.press_fault.specs.Plane.{PointValue}
use Rattle.geo_path.specs.declared.arc.Circle.{Circle}
use Rattle.geo_path.specs.declared.path.PathFault.{PathFault}
use Rattle.geo_path.specs.Arc.{arc_point, points_within}

-- the points from place i on, as long as there is room for them
abbrev pub points_from : Circle → List ℤ → ℕ → ℕ → Result (List PointValue) PathFault
points_from circle angles room i = points_within (room - i)
    (drop i (map (arc_point circle.m circle.x circle.y circle.r) angles))

-- points in front of those that come behind them, or their refusal
abbrev pub put_all : List PointValue → Result (List PointValue) PathFault → Result (List PointValue) PathFault
put_all front (Ok points) = Ok (front ++ points)
put_all front (Err fault) = Err fault
