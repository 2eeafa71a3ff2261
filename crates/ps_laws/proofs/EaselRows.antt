-- What holds of the operands that an operator on operands and graphics leaves: P holds of them, where it holds of the
-- operands without any number of the top ones, and of these with two real numbers.
use Rattle.std.specs.Prelude.{ℤ, Bool, nat_lt}
use Rattle.std.proofs.lemmas.Bool.{ltb-true}
use Rattle.std.proofs.Common.{ℕ, ◌<◌, List, [], ◌∷◌, length, drop, Option, Some, None, Result, Ok, Err}
use Rattle.press_fault.specs.Plane.{PointValue}
use Rattle.press_fault.specs.declared.names.PsName.{PsName}
use Rattle.geo_matrix.specs.Affine.{dots_of, step_dots_of}
use Rattle.geo_matrix.specs.Places.{RealPointValue, device_of, user_of, back_of}
use Rattle.geo_matrix.specs.Turn.{turn_of}
use Rattle.geo_path.specs.declared.path.PathFault.{PathFault}
use Rattle.geo_path.specs.Path.{PathValue, current_of, move_of, line_of, curve_of}
use Rattle.geo_path.specs.Arc.{arc_of}
use Rattle.page_model.specs.declared.shape.Rule.{Rule}
use Rattle.page_model.specs.declared.shape.Rule.TheVariants.{Nonzero}
use Rattle.ps_store.specs.declared.obj.Obj.{Obj}
use Rattle.ps_store.specs.declared.obj.Obj.TheVariants.{Real}
use Rattle.ps_store.specs.Numbers.{raw_of}
use Rattle.ps_store.specs.Outcome.{Outcome, Goes, Refuses, or_range, or_limit, or_undefined_result, or_refusal}
use Rattle.ps_store.specs.Store.{StoreValue}
use Rattle.gfx_state.specs.declared.line_style.DashFault.{DashFault}
use Rattle.gfx_state.specs.declared.colour.Space.{Space}
use Rattle.gfx_state.specs.Colour.{channels_of}
use Rattle.gfx_state.specs.Lines.{dash_fault}
use Rattle.gfx_state.specs.Graphics.{GfxValue, saved_state, concatenated, translation, scaling, filled, stroked}
use Rattle.gfx_state.specs.Graphics.{clipped, painted, stroked_along, clipped_to, with_width, with_cap, with_join}
use Rattle.gfx_state.specs.Graphics.{with_miter}
use Rattle.ps_gfx_ops.specs.Easel.{OperandsAndGraphics}
use Rattle.ps_gfx_ops.specs.Points.{one_number, one_point, three_points, top_numbers}
use Rattle.ps_gfx_ops.specs.Colours.{colour_row}
use Rattle.ps_gfx_ops.specs.States.{gsave_row}
use Rattle.ps_gfx_ops.specs.Matrices.{one_matrix, setmatrix_row, concat_row, translate_row, scale_row, rotate_row}
use Rattle.ps_gfx_ops.specs.Matrices.{in_place_of_two, transform_row, itransform_row}
use Rattle.ps_gfx_ops.specs.Paths.{drawn, from_point, stepped, moveto_row, lineto_row, rmoveto_row, rlineto_row}
use Rattle.ps_gfx_ops.specs.Paths.{curveto_row, rcurveto_row, with_arc, arc_row, pushed_point, currentpoint_row}
use Rattle.ps_gfx_ops.specs.Paths.{fill_row, stroke_row, clip_row}
use Rattle.ps_gfx_ops.specs.Rectangles.{one_rectangle, path_along, rectfill_row, rectstroke_row, rectclip_row}
use Rattle.ps_gfx_ops.specs.Lines.{one_integer, setlinewidth_row, setmiterlimit_row, setlinecap_row, setlinejoin_row}
use Rattle.ps_gfx_ops.specs.Lines.{dash_operands, unless_refused, setdash_row}
use Rattle.ps_gfx_ops.specs.Devices.{one_size, setpagedevice_row}
use Rattle.ps_laws.proofs.Operands.{by_test}

-- P holds of the operands that are left
abbrev pub After : (List Obj → Type 0) → Outcome OperandsAndGraphics → Type 0
After P (Goes easel) = P easel.operands
After P (Refuses name) = Unit {0}

-- P holds of the operands without any number of the top ones
abbrev pub Dropped : (List Obj → Type 0) → List Obj → Type 0
Dropped P os = (n : ℕ) → P (drop n os)

-- and with two real numbers in the place of two of them
abbrev pub InPlace : (List Obj → Type 0) → List Obj → Type 0
InPlace P os = (a b : ℤ) → P (Real a ∷ Real b ∷ drop 2 os)

-- and on top of them, where there is room
abbrev pub OnTop : (List Obj → Type 0) → List Obj → Type 0
OnTop P os = (a b : ℤ) → length os < 499 → P (Real a ∷ Real b ∷ os)

by_refusal : {A : Type 0} (P : List Obj → Type 0) (answer : Result A PsName) (go : A → Outcome OperandsAndGraphics) →
    ((a : A) → After P (go a)) → After P (or_refusal answer go)
by_refusal P (Ok a) go given = given a
by_refusal P (Err name) go given = tt

by_limit : {A : Type 0} (P : List Obj → Type 0) (o : Option A) (go : A → Outcome OperandsAndGraphics) →
    ((a : A) → After P (go a)) → After P (or_limit o go)
by_limit P (Some a) go given = given a
by_limit P None go given = tt

by_result : {A : Type 0} (P : List Obj → Type 0) (o : Option A) (go : A → Outcome OperandsAndGraphics) →
    ((a : A) → After P (go a)) → After P (or_undefined_result o go)
by_result P (Some a) go given = given a
by_result P None go given = tt

by_range : {A : Type 0} (P : List Obj → Type 0) (o : Option A) (go : A → Outcome OperandsAndGraphics) →
    ((a : A) → After P (go a)) → After P (or_range o go)
by_range P (Some a) go given = given a
by_range P None go given = tt

by_point : (P : List Obj → Type 0) (o : Option PointValue) (go : PointValue → Outcome OperandsAndGraphics) →
    ((at : PointValue) → After P (go at)) → After P (from_point o go)
by_point P (Some at) go given = given at
by_point P None go given = tt

after_drawn : (P : List Obj → Type 0) (answer : Result PathValue PathFault) (rest : List Obj) (g : GfxValue) → P rest →
    After P (drawn answer rest g)
after_drawn P (Ok path) rest g h = h
after_drawn P (Err fault) rest g h = tt

-- what `gsave` leaves of the operands
pub after_gsave : (P : List Obj → Type 0) (os : List Obj) (g : GfxValue) → Dropped P os → After P (gsave_row os g)
after_gsave P os g h = by_limit P (saved_state g) _ (λ now. h 0)

-- what `setgray` and the like leave of the operands
pub after_colour : (P : List Obj → Type 0) (space : Space) (os : List Obj) (g : GfxValue) → Dropped P os →
    After P (colour_row space os g)
after_colour P space os g h = by_refusal P (top_numbers (channels_of space) os) _ (λ values. h (channels_of space))

-- what `moveto` leaves of the operands
pub after_moveto : (P : List Obj → Type 0) (os : List Obj) (g : GfxValue) → Dropped P os → After P (moveto_row os g)
after_moveto P os g h = by_refusal P (one_point os) _ (λ u. by_limit P (dots_of g.state.matrix u.x u.y) _ (λ p.
    after_drawn P (move_of g.state.path p) (drop 2 os) g (h 2)))

-- what `lineto` leaves of the operands
pub after_lineto : (P : List Obj → Type 0) (os : List Obj) (g : GfxValue) → Dropped P os → After P (lineto_row os g)
after_lineto P os g h = by_refusal P (one_point os) _ (λ u. by_point P (current_of g.state.path) _ (λ at.
    by_limit P (dots_of g.state.matrix u.x u.y) _ (λ p. after_drawn P (line_of g.state.path p) (drop 2 os) g (h 2))))

-- what `rmoveto` leaves of the operands
pub after_rmoveto : (P : List Obj → Type 0) (os : List Obj) (g : GfxValue) → Dropped P os → After P (rmoveto_row os g)
after_rmoveto P os g h = by_refusal P (one_point os) _ (λ u. by_point P (current_of g.state.path) _ (λ at.
    by_limit P (step_dots_of g.state.matrix u.x u.y) _
    (λ step. after_drawn P (move_of g.state.path (stepped at step)) (drop 2 os) g (h 2))))

-- what `rlineto` leaves of the operands
pub after_rlineto : (P : List Obj → Type 0) (os : List Obj) (g : GfxValue) → Dropped P os → After P (rlineto_row os g)
after_rlineto P os g h = by_refusal P (one_point os) _ (λ u. by_point P (current_of g.state.path) _ (λ at.
    by_limit P (step_dots_of g.state.matrix u.x u.y) _
    (λ step. after_drawn P (line_of g.state.path (stepped at step)) (drop 2 os) g (h 2))))

-- what `curveto` leaves of the operands
pub after_curveto : (P : List Obj → Type 0) (os : List Obj) (g : GfxValue) → Dropped P os → After P (curveto_row os g)
after_curveto P os g h = by_refusal P (three_points os) _ (λ u. by_point P (current_of g.state.path) _ (λ at.
    by_limit P (dots_of g.state.matrix u.first.x u.first.y) _ (λ p.
    by_limit P (dots_of g.state.matrix u.second.x u.second.y) _ (λ q.
    by_limit P (dots_of g.state.matrix u.third.x u.third.y) _
    (λ r. after_drawn P (curve_of g.state.path p q r) (drop 6 os) g (h 6))))))

-- what `rcurveto` leaves of the operands
pub after_rcurveto : (P : List Obj → Type 0) (os : List Obj) (g : GfxValue) → Dropped P os → After P (rcurveto_row os g)
after_rcurveto P os g h = by_refusal P (three_points os) _ (λ u. by_point P (current_of g.state.path) _ (λ at.
    by_limit P (step_dots_of g.state.matrix u.first.x u.first.y) _ (λ p.
    by_limit P (step_dots_of g.state.matrix u.second.x u.second.y) _ (λ q.
    by_limit P (step_dots_of g.state.matrix u.third.x u.third.y) _ (λ r.
    after_drawn P (curve_of g.state.path (stepped at p) (stepped at q) (stepped at r)) (drop 6 os) g (h 6))))))

after_with_arc : (P : List Obj → Type 0) (clockwise : Bool) (x y r from to : Option ℤ) (rest : List Obj)
    (g : GfxValue) → P rest → After P (with_arc clockwise x y r from to rest g)
after_with_arc P clockwise (Some x) (Some y) (Some r) (Some from) (Some to) rest g h =
    after_drawn P (arc_of g.state.path g.state.matrix x y r from to clockwise) rest g h
after_with_arc P clockwise x y r from to rest g h = tt

-- what `arc` leaves of the operands
pub after_arc : (P : List Obj → Type 0) (clockwise : Bool) (os : List Obj) (g : GfxValue) → Dropped P os →
    After P (arc_row clockwise os g)
after_arc P clockwise (to ∷ from ∷ r ∷ y ∷ x ∷ rest) g h =
    after_with_arc P clockwise (raw_of x) (raw_of y) (raw_of r) (raw_of from) (raw_of to) rest g (h 5)
after_arc P clockwise os g h = tt

after_pushed_point : (P : List Obj → Type 0) (u : RealPointValue) (os : List Obj) (g : GfxValue) → OnTop P os →
    After P (pushed_point u os g)
after_pushed_point P u os g h = by_test (After P) (nat_lt (length os) 499)
    (Goes (record { operands = Real u.y ∷ Real u.x ∷ os; graphics = g })) _
    (λ e. h u.y u.x (ltb-true (length os) 499 e)) (λ e. tt)

-- what `currentpoint` leaves of the operands
pub after_currentpoint : (P : List Obj → Type 0) (os : List Obj) (g : GfxValue) → OnTop P os →
    After P (currentpoint_row os g)
after_currentpoint P os g h = by_point P (current_of g.state.path) _
    (λ at. by_result P (back_of g.state.matrix at) _ (λ u. after_pushed_point P u os g h))

-- what `fill` leaves of the operands
pub after_fill : (P : List Obj → Type 0) (rule : Rule) (os : List Obj) (g : GfxValue) → Dropped P os →
    After P (fill_row rule os g)
after_fill P rule os g h = by_limit P (filled g rule) _ (λ page. h 0)

-- what `setmatrix` leaves of the operands
pub after_setmatrix : (P : List Obj → Type 0) (os : List Obj) (s : StoreValue) (g : GfxValue) → Dropped P os →
    After P (setmatrix_row os s g)
after_setmatrix P os s g h = by_refusal P (one_matrix os s) _ (λ m. h 1)

-- what `concat` leaves of the operands
pub after_concat : (P : List Obj → Type 0) (os : List Obj) (s : StoreValue) (g : GfxValue) → Dropped P os →
    After P (concat_row os s g)
after_concat P os s g h = by_refusal P (one_matrix os s) _ (λ m. by_result P (concatenated g m) _ (λ now. h 1))

-- what `translate` leaves of the operands
pub after_translate : (P : List Obj → Type 0) (os : List Obj) (g : GfxValue) → Dropped P os →
    After P (translate_row os g)
after_translate P os g h = by_refusal P (one_point os) _
    (λ u. by_result P (concatenated g (translation u.x u.y)) _ (λ now. h 2))

-- what `scale` leaves of the operands
pub after_scale : (P : List Obj → Type 0) (os : List Obj) (g : GfxValue) → Dropped P os → After P (scale_row os g)
after_scale P os g h = by_refusal P (one_point os) _
    (λ u. by_result P (concatenated g (scaling u.x u.y)) _ (λ now. h 2))

-- what `rotate` leaves of the operands
pub after_rotate : (P : List Obj → Type 0) (os : List Obj) (g : GfxValue) → Dropped P os → After P (rotate_row os g)
after_rotate P os g h = by_refusal P (one_number os) _
    (λ angle. by_result P (concatenated g (turn_of angle)) _ (λ now. h 1))

after_in_place : (P : List Obj → Type 0) (mapped : Option RealPointValue) (os : List Obj) (g : GfxValue) →
    InPlace P os → After P (in_place_of_two mapped os g)
after_in_place P mapped os g h = by_result P mapped _ (λ v. h v.y v.x)

-- what `transform` leaves of the operands
pub after_transform : (P : List Obj → Type 0) (os : List Obj) (g : GfxValue) → InPlace P os →
    After P (transform_row os g)
after_transform P os g h = by_refusal P (one_point os) _
    (λ u. after_in_place P (device_of g.state.matrix u.x u.y) os g h)

-- what `itransform` leaves of the operands
pub after_itransform : (P : List Obj → Type 0) (os : List Obj) (g : GfxValue) → InPlace P os →
    After P (itransform_row os g)
after_itransform P os g h = by_refusal P (one_point os) _
    (λ u. after_in_place P (user_of g.state.matrix u.x u.y) os g h)

-- what `stroke` leaves of the operands
pub after_stroke : (P : List Obj → Type 0) (os : List Obj) (g : GfxValue) → Dropped P os → After P (stroke_row os g)
after_stroke P os g h = by_limit P (stroked g) _ (λ page. h 0)

-- what `clip` leaves of the operands
pub after_clip : (P : List Obj → Type 0) (rule : Rule) (os : List Obj) (g : GfxValue) → Dropped P os →
    After P (clip_row rule os g)
after_clip P rule os g h = by_limit P (clipped g rule) _ (λ now. h 0)

-- what `rectfill` leaves of the operands
pub after_rectfill : (P : List Obj → Type 0) (os : List Obj) (g : GfxValue) → Dropped P os → After P (rectfill_row os g)
after_rectfill P os g h = by_refusal P (one_rectangle g.state.matrix os) _ (λ ring.
    by_limit P (painted g Nonzero (ring ∷ [])) _ (λ page. h 4))

-- what `rectstroke` leaves of the operands
pub after_rectstroke : (P : List Obj → Type 0) (os : List Obj) (g : GfxValue) → Dropped P os →
    After P (rectstroke_row os g)
after_rectstroke P os g h = by_refusal P (one_rectangle g.state.matrix os) _ (λ ring.
    by_limit P (stroked_along g (path_along ring)) _ (λ page. h 4))

-- what `rectclip` leaves of the operands
pub after_rectclip : (P : List Obj → Type 0) (os : List Obj) (g : GfxValue) → Dropped P os → After P (rectclip_row os g)
after_rectclip P os g h = by_refusal P (one_rectangle g.state.matrix os) _ (λ ring.
    by_limit P (clipped_to g Nonzero (path_along ring)) _ (λ now. h 4))

-- what `setlinewidth` leaves of the operands
pub after_setlinewidth : (P : List Obj → Type 0) (os : List Obj) (g : GfxValue) → Dropped P os →
    After P (setlinewidth_row os g)
after_setlinewidth P os g h = by_refusal P (one_number os) _ (λ width. by_result P (with_width g width) _ (λ now. h 1))

-- what `setmiterlimit` leaves of the operands
pub after_setmiterlimit : (P : List Obj → Type 0) (os : List Obj) (g : GfxValue) → Dropped P os →
    After P (setmiterlimit_row os g)
after_setmiterlimit P os g h = by_refusal P (one_number os) _ (λ limit. by_range P (with_miter g limit) _ (λ now. h 1))

-- what `setlinecap` leaves of the operands
pub after_setlinecap : (P : List Obj → Type 0) (os : List Obj) (g : GfxValue) → Dropped P os →
    After P (setlinecap_row os g)
after_setlinecap P os g h = by_refusal P (one_integer os) _ (λ number. by_range P (with_cap g number) _ (λ now. h 1))

-- what `setlinejoin` leaves of the operands
pub after_setlinejoin : (P : List Obj → Type 0) (os : List Obj) (g : GfxValue) → Dropped P os →
    After P (setlinejoin_row os g)
after_setlinejoin P os g h = by_refusal P (one_integer os) _ (λ number. by_range P (with_join g number) _ (λ now. h 1))

after_unless : (P : List Obj → Type 0) (fault : Option DashFault) (go : Outcome OperandsAndGraphics) → After P go →
    After P (unless_refused fault go)
after_unless P None go h = h
after_unless P (Some fault) go h = tt

-- what `setdash` leaves of the operands
pub after_setdash : (P : List Obj → Type 0) (os : List Obj) (s : StoreValue) (g : GfxValue) → Dropped P os →
    After P (setdash_row os s g)
after_setdash P os s g h = by_refusal P (dash_operands os s) _ (λ d. after_unless P (dash_fault d.lengths) _ (h 2))

-- what `setpagedevice` leaves of the operands
pub after_setpagedevice : (P : List Obj → Type 0) (os : List Obj) (s : StoreValue) (g : GfxValue) → Dropped P os →
    After P (setpagedevice_row os s g)
after_setpagedevice P os s g h = by_refusal P (one_size g.size os s) _ (λ dots. h 1)
