-- The refusals of a path's calls: none is want of memory, so each is an error of the language.
use Rattle.std.proofs.Common.{◌≡◌, ◌≢◌, ℕ, zero, suc, ℤ, Bool, true, false, List, [], ◌∷◌, map, Option, Some, None}
use Rattle.std.proofs.Common.{Result, Ok, Err, IfErr, nat_le, ◌&&◌, if◌then◌else◌, sym, ◌∙◌, ap}
use Rattle.press_fault.specs.Plane.{PointValue}
use Rattle.press_fault.specs.declared.names.PsName.{PsName}
use Rattle.geo_matrix.specs.Affine.{MatrixValue, dots_of, is_near}
use Rattle.geo_path.specs.declared.segment.Segment.TheVariants.{Line, Curve}
use Rattle.geo_path.specs.declared.path.PathFault.{PathFault}
use Rattle.geo_path.specs.declared.path.PathFault.TheVariants as OfPath
use Rattle.geo_path.specs.Path.{SubpathValue, PathValue, count_of, drawn_in, from_current, within, line_of, curve_of}
use Rattle.geo_path.specs.Arc.{arrives, arc_spot, arc_point, put_before, points_within, traced_or, room_of, angles_of}
use Rattle.geo_path.specs.Arc.{arc_to, arc_of}
use Rattle.ps_store.specs.declared.obj.Obj.{Obj}
use Rattle.ps_store.specs.declared.fault.OpFault.{OpFault}
use Rattle.ps_store.specs.declared.fault.OpFault.TheVariants.{Ps}
use Rattle.ps_store.specs.Outcome.{Refuses}
use Rattle.gfx_state.specs.Graphics.{GfxValue}
use Rattle.ps_gfx_ops.specs.Paths.{error_of, drawn}

-- what a call refuses, an operator tells
pub told_path : (answer : Result PathValue PathFault) (rest : List Obj) (g : GfxValue) (fault : PathFault)
    (told : OpFault) (name : PsName) → answer ≢ Err OfPath.NoMemory →
    IfErr answer (λ f. ◌≡◌ {A = Result (Unit {0}) PathFault} (Err fault) (Err f)) →
    (fault ≢ OfPath.NoMemory → told ≡ Ps (error_of fault)) → drawn answer rest g ≡ Refuses name →
    ◌≡◌ {A = Result (Unit {0}) OpFault} (Err told) (Err (Ps name))
told_path (Ok path) rest g fault told name never same named refused = absurd (cc)
told_path (Err f) rest g fault told name never same named refused =
    let fault_is : fault ≡ f = cc in
    let told_is : told ≡ Ps (error_of fault) = named (λ lost. never (ap Err (sym fault_is ∙ lost))) in
    let name_is : error_of f ≡ name = cc in
    ap Err (told_is ∙ ap Ps (ap error_of fault_is ∙ name_is))

within_named : (near : Bool) (path : PathValue) →
    (if near then Ok path else Err OfPath.LimitCheck) ≢ Err OfPath.NoMemory
within_named true path e = absurd (cc)
within_named false path e = absurd (cc)

current_named : (last : Option SubpathValue) (answer : Result PathValue PathFault) → answer ≢ Err OfPath.NoMemory →
    from_current last answer ≢ Err OfPath.NoMemory
current_named None answer never e = absurd (cc)
current_named (Some s) answer never e = never e

-- the definition of a line never names want of memory
pub line_named : (path : PathValue) (p : PointValue) → line_of path p ≢ Err OfPath.NoMemory
line_named path p =
    let path' = drawn_in path.before path.last (Line p ∷ []) in
    current_named path.last (within (is_near p) path') (within_named (is_near p && nat_le (count_of path') 65536) path')

-- the definition of a curve never names want of memory
pub curve_named : (path : PathValue) (p q r : PointValue) → curve_of path p q r ≢ Err OfPath.NoMemory
curve_named path p q r =
    let path' = drawn_in path.before path.last (Curve p q r ∷ []) in
    let near = is_near p && is_near q && is_near r in
    current_named path.last (within near path') (within_named (near && nat_le (count_of path') 65536) path')

arrival_named : (p : Option PointValue) → arrives p ≢ Err OfPath.NoMemory
arrival_named None e = absurd (cc)
arrival_named (Some p) e = absurd (cc)

spot_named : (m : MatrixValue) (x y : Option ℤ) → arc_spot m x y ≢ Err OfPath.NoMemory
spot_named m None y e = absurd (cc)
spot_named m (Some x) None e = absurd (cc)
spot_named m (Some x) (Some y) e = arrival_named (dots_of m x y) e

before_named : (p : PointValue) (points : Result (List PointValue) PathFault) → points ≢ Err OfPath.NoMemory →
    put_before p points ≢ Err OfPath.NoMemory
before_named p (Ok points) never e = absurd (cc)
before_named p (Err fault) never e = never e

first_named : (room : ℕ) (first : Result PointValue PathFault) (rest : List (Result PointValue PathFault)) →
    first ≢ Err OfPath.NoMemory → ((left : ℕ) → points_within left rest ≢ Err OfPath.NoMemory) →
    points_within room (first ∷ rest) ≢ Err OfPath.NoMemory
first_named room (Err fault) rest never more e = let lost : fault ≡ OfPath.NoMemory = cc in never (ap Err lost)
first_named zero (Ok p) rest never more e = absurd (cc)
first_named (suc room) (Ok p) rest never more e = before_named p (points_within room rest) (more room) e

points_named : (m : MatrixValue) (x y r : ℤ) (angles : List ℤ) (room : ℕ) →
    points_within room (map (arc_point m x y r) angles) ≢ Err OfPath.NoMemory
points_named m x y r [] room = λ e. absurd (cc)
points_named m x y r (angle ∷ rest) room =
    first_named room (arc_point m x y r angle) (map (arc_point m x y r) rest) (spot_named m _ _)
    (points_named m x y r rest)

traced_named : (path : PathValue) (points : Result (List PointValue) PathFault) → points ≢ Err OfPath.NoMemory →
    traced_or path points ≢ Err OfPath.NoMemory
traced_named path (Ok points) never e = absurd (cc)
traced_named path (Err fault) never e = let lost : fault ≡ OfPath.NoMemory = cc in never (ap Err lost)

end_named : (path : PathValue) (m : MatrixValue) (x y r : ℤ) (clockwise : Bool) (from : ℤ) (end : Option ℤ) →
    arc_to path m x y r clockwise from end ≢ Err OfPath.NoMemory
end_named path m x y r clockwise from None = λ e. absurd (cc)
end_named path m x y r clockwise from (Some to) =
    traced_named path _ (points_named m x y r (angles_of clockwise from to) (room_of path))

-- the definition of an arc never names want of memory
pub arc_named : (path : PathValue) (m : MatrixValue) (x y r from to : ℤ) (clockwise : Bool) →
    arc_of path m x y r from to clockwise ≢ Err OfPath.NoMemory
arc_named path m x y r from to clockwise = end_named path m x y r clockwise from _
