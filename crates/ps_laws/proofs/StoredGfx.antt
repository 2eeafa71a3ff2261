-- The graphics operators leave operands that are of the store.
use Rattle.std.specs.Prelude.{nat_lt, true, false}
use Rattle.std.proofs.Common.{ℕ, List, [], ◌∷◌, length, arith, Option, Some, None}
use Rattle.ps_store.specs.declared.obj.Obj.{Obj}
use Rattle.ps_store.specs.declared.obj.Obj.TheVariants.{Array, Real}
use Rattle.ps_store.specs.declared.obj.Part.{Part}
use Rattle.ps_store.specs.declared.oper.GfxOp.{GfxOp}
use Rattle.ps_store.specs.declared.oper.GfxOp.TheVariants as OnGfx
use Rattle.ps_store.specs.Outcome.{Outcome, Goes, Refuses, or_limit}
use Rattle.ps_store.specs.Store.{StoreValue, with_array_of}
use Rattle.ps_store.specs.Gathering.{with_elements}
use Rattle.page_model.specs.declared.shape.Rule.TheVariants.{Nonzero, EvenOdd}
use Rattle.gfx_state.specs.declared.colour.Space.TheVariants.{Gray, Rgb, Cmyk}
use Rattle.gfx_state.specs.Colour.{gray_of}
use Rattle.gfx_state.specs.Graphics.{GfxValue}
use Rattle.geo_matrix.specs.Affine.{MatrixValue, identity}
use Rattle.ps_gfx_ops.specs.Easel.{OperandsAndGraphics}
use Rattle.ps_gfx_ops.specs.Scene.{GraphicsScene, beside}
use Rattle.ps_gfx_ops.specs.Colours.{on_easel}
use Rattle.ps_gfx_ops.specs.Matrices.{elements_of, matrix_row, currentmatrix_row}
use Rattle.ps_gfx_ops.specs.Rows.{gfx_row}
use Rattle.ps_laws.specs.Stored.{Each, IsOf}
use Rattle.ps_laws.proofs.Operands.{by_test}
use Rattle.ps_laws.proofs.Each.{Sound, Grown, OfSome, Made, each_drop, are_more, grown_elements, made_array_of}
use Rattle.ps_laws.proofs.StoredStack.{AreOf, of_pushed}
use Rattle.ps_laws.proofs.EaselRows.{After, Dropped, InPlace, OnTop, after_gsave, after_moveto, after_lineto}
use Rattle.ps_laws.proofs.EaselRows.{after_rmoveto, after_rlineto, after_curveto, after_rcurveto, after_arc}
use Rattle.ps_laws.proofs.EaselRows.{after_currentpoint, after_fill, after_setmatrix, after_concat, after_translate}
use Rattle.ps_laws.proofs.EaselRows.{after_scale, after_rotate, after_transform, after_itransform, after_stroke}
use Rattle.ps_laws.proofs.EaselRows.{after_clip, after_rectfill, after_rectstroke, after_rectclip, after_setlinewidth}
use Rattle.ps_laws.proofs.EaselRows.{after_setmiterlimit, after_setlinecap, after_setlinejoin, after_setdash}
use Rattle.ps_laws.proofs.EaselRows.{after_setpagedevice, after_colour}

abbrev pub EaselOf : ℕ → Outcome OperandsAndGraphics → Type 0
EaselOf m outcome = After (Each (IsOf m)) outcome

-- the store has lost none, and the operands are of it
abbrev pub SceneOf : ℕ → Outcome GraphicsScene → Type 0
SceneOf m (Goes scene) = Grown m scene.store × Each (IsOf (length scene.store.made)) scene.operands
SceneOf m (Refuses name) = Unit {0}

of_beside : (s : StoreValue) (outcome : Outcome OperandsAndGraphics) → Sound s → EaselOf (length s.made) outcome →
    SceneOf (length s.made) (beside s outcome)
of_beside s (Goes easel) h k = ((h, omega arith), k)
of_beside s (Refuses name) h k = tt

of_dropped : (m : ℕ) (os : List Obj) → Each (IsOf m) os → Dropped (Each (IsOf m)) os
of_dropped m os h n = each_drop (IsOf m) n os h

of_in_place : (m : ℕ) (os : List Obj) → Each (IsOf m) os → InPlace (Each (IsOf m)) os
of_in_place m os h a b = (tt, (tt, each_drop (IsOf m) 2 os h))

of_on_top : (m : ℕ) (os : List Obj) → Each (IsOf m) os → OnTop (Each (IsOf m)) os
of_on_top m os h a b room = (tt, (tt, h))

of_on_easel : (m : ℕ) (g : GfxValue) (outcome : Outcome (List Obj)) → AreOf m outcome → EaselOf m (on_easel g outcome)
of_on_easel m g (Goes operands) h = h
of_on_easel m g (Refuses name) h = tt

of_elements : (m : ℕ) (a : MatrixValue) → Each (IsOf m) (elements_of a)
of_elements m a = (tt, (tt, (tt, (tt, (tt, (tt, tt))))))

of_new : (m : ℕ) (made : Option (Part × StoreValue)) (os : List Obj) (g : GfxValue) → OfSome (Made m) made →
    Each (IsOf m) os → SceneOf m (or_limit made
    (λ new. Goes (record { operands = Array new.0 false ∷ os; store = new.1; graphics = g })))
of_new m (Some new) os g h k = (h.0, (h.1, are_more m (length new.1.made) h.0.1 os k))
of_new m None os g h k = tt

of_matrix : (os : List Obj) (s : StoreValue) (g : GfxValue) → Sound s → Each (IsOf (length s.made)) os →
    SceneOf (length s.made) (matrix_row os s g)
of_matrix os s g h k = by_test (SceneOf (length s.made)) (nat_lt (length os) 500) _ _
    (λ e. of_new (length s.made) (with_array_of s (elements_of identity)) os g
    (made_array_of s (elements_of identity) h (of_elements (length s.made) identity)) k)
    (λ e. tt)

of_currentmatrix : (os : List Obj) (s : StoreValue) (g : GfxValue) → Sound s → Each (IsOf (length s.made)) os →
    SceneOf (length s.made) (currentmatrix_row os s g)
of_currentmatrix (Array p x ∷ rest) s g h k =
    by_test (SceneOf (length s.made)) (nat_lt p.len 6) (Refuses _) _ (λ e. tt) (λ e.
    let t = with_elements s p 0 (elements_of g.state.matrix) in
    let grown = grown_elements s p 0 (elements_of g.state.matrix) h (of_elements (length s.made) g.state.matrix) in
    (grown, are_more (length s.made) (length t.made) grown.1 (Array p x ∷ rest) k))
of_currentmatrix (o ∷ rest) s g h k = tt
of_currentmatrix [] s g h k = tt

-- each graphics operator leaves what is of the store
pub gfx_of : (op : GfxOp) (operands : List Obj) (s : StoreValue) (g : GfxValue) → Sound s →
    Each (IsOf (length s.made)) operands → SceneOf (length s.made) (gfx_row op operands s g)
unfolding gfx_row
gfx_of OnGfx.Gsave os s g h k = of_beside s _ h
    (after_gsave (Each (IsOf (length s.made))) os g (of_dropped (length s.made) os k))
gfx_of OnGfx.Grestore os s g h k = ((h, omega arith), k)
gfx_of OnGfx.Grestoreall os s g h k = ((h, omega arith), k)
gfx_of OnGfx.Initgraphics os s g h k = ((h, omega arith), k)
gfx_of OnGfx.Setlinewidth os s g h k = of_beside s _ h
    (after_setlinewidth (Each (IsOf (length s.made))) os g (of_dropped (length s.made) os k))
gfx_of OnGfx.Setmiterlimit os s g h k = of_beside s _ h
    (after_setmiterlimit (Each (IsOf (length s.made))) os g (of_dropped (length s.made) os k))
gfx_of OnGfx.Setlinecap os s g h k = of_beside s _ h
    (after_setlinecap (Each (IsOf (length s.made))) os g (of_dropped (length s.made) os k))
gfx_of OnGfx.Setlinejoin os s g h k = of_beside s _ h
    (after_setlinejoin (Each (IsOf (length s.made))) os g (of_dropped (length s.made) os k))
gfx_of OnGfx.Setdash os s g h k = of_beside s _ h
    (after_setdash (Each (IsOf (length s.made))) os s g (of_dropped (length s.made) os k))
gfx_of OnGfx.Currentlinewidth os s g h k =
    of_beside s _ h (of_on_easel (length s.made) g _ (of_pushed (length s.made) (Real g.state.line.width) os tt k))
gfx_of OnGfx.Currentgray os s g h k = of_beside s _ h
    (of_on_easel (length s.made) g _ (of_pushed (length s.made) (Real (gray_of g.state.space g.state.code.c)) os tt k))
gfx_of OnGfx.Setgray os s g h k = of_beside s _ h
    (after_colour (Each (IsOf (length s.made))) Gray os g (of_dropped (length s.made) os k))
gfx_of OnGfx.Setrgbcolor os s g h k = of_beside s _ h
    (after_colour (Each (IsOf (length s.made))) Rgb os g (of_dropped (length s.made) os k))
gfx_of OnGfx.Setcmykcolor os s g h k = of_beside s _ h
    (after_colour (Each (IsOf (length s.made))) Cmyk os g (of_dropped (length s.made) os k))
gfx_of OnGfx.Matrix os s g h k = of_matrix os s g h k
gfx_of OnGfx.Currentmatrix os s g h k = of_currentmatrix os s g h k
gfx_of OnGfx.Setmatrix os s g h k = of_beside s _ h
    (after_setmatrix (Each (IsOf (length s.made))) os s g (of_dropped (length s.made) os k))
gfx_of OnGfx.Concat os s g h k = of_beside s _ h
    (after_concat (Each (IsOf (length s.made))) os s g (of_dropped (length s.made) os k))
gfx_of OnGfx.Initmatrix os s g h k = ((h, omega arith), k)
gfx_of OnGfx.Translate os s g h k = of_beside s _ h
    (after_translate (Each (IsOf (length s.made))) os g (of_dropped (length s.made) os k))
gfx_of OnGfx.Scale os s g h k = of_beside s _ h
    (after_scale (Each (IsOf (length s.made))) os g (of_dropped (length s.made) os k))
gfx_of OnGfx.Rotate os s g h k = of_beside s _ h
    (after_rotate (Each (IsOf (length s.made))) os g (of_dropped (length s.made) os k))
gfx_of OnGfx.Transform os s g h k = of_beside s _ h
    (after_transform (Each (IsOf (length s.made))) os g (of_in_place (length s.made) os k))
gfx_of OnGfx.Itransform os s g h k = of_beside s _ h
    (after_itransform (Each (IsOf (length s.made))) os g (of_in_place (length s.made) os k))
gfx_of OnGfx.Newpath os s g h k = ((h, omega arith), k)
gfx_of OnGfx.Closepath os s g h k = ((h, omega arith), k)
gfx_of OnGfx.Initclip os s g h k = ((h, omega arith), k)
gfx_of OnGfx.Moveto os s g h k = of_beside s _ h
    (after_moveto (Each (IsOf (length s.made))) os g (of_dropped (length s.made) os k))
gfx_of OnGfx.Lineto os s g h k = of_beside s _ h
    (after_lineto (Each (IsOf (length s.made))) os g (of_dropped (length s.made) os k))
gfx_of OnGfx.Rmoveto os s g h k = of_beside s _ h
    (after_rmoveto (Each (IsOf (length s.made))) os g (of_dropped (length s.made) os k))
gfx_of OnGfx.Rlineto os s g h k = of_beside s _ h
    (after_rlineto (Each (IsOf (length s.made))) os g (of_dropped (length s.made) os k))
gfx_of OnGfx.Curveto os s g h k = of_beside s _ h
    (after_curveto (Each (IsOf (length s.made))) os g (of_dropped (length s.made) os k))
gfx_of OnGfx.Rcurveto os s g h k = of_beside s _ h
    (after_rcurveto (Each (IsOf (length s.made))) os g (of_dropped (length s.made) os k))
gfx_of OnGfx.Arc os s g h k = of_beside s _ h
    (after_arc (Each (IsOf (length s.made))) false os g (of_dropped (length s.made) os k))
gfx_of OnGfx.Arcn os s g h k = of_beside s _ h
    (after_arc (Each (IsOf (length s.made))) true os g (of_dropped (length s.made) os k))
gfx_of OnGfx.Currentpoint os s g h k = of_beside s _ h
    (after_currentpoint (Each (IsOf (length s.made))) os g (of_on_top (length s.made) os k))
gfx_of OnGfx.Fill os s g h k = of_beside s _ h
    (after_fill (Each (IsOf (length s.made))) Nonzero os g (of_dropped (length s.made) os k))
gfx_of OnGfx.Eofill os s g h k = of_beside s _ h
    (after_fill (Each (IsOf (length s.made))) EvenOdd os g (of_dropped (length s.made) os k))
gfx_of OnGfx.Stroke os s g h k = of_beside s _ h
    (after_stroke (Each (IsOf (length s.made))) os g (of_dropped (length s.made) os k))
gfx_of OnGfx.Clip os s g h k = of_beside s _ h
    (after_clip (Each (IsOf (length s.made))) Nonzero os g (of_dropped (length s.made) os k))
gfx_of OnGfx.Eoclip os s g h k = of_beside s _ h
    (after_clip (Each (IsOf (length s.made))) EvenOdd os g (of_dropped (length s.made) os k))
gfx_of OnGfx.Rectfill os s g h k = of_beside s _ h
    (after_rectfill (Each (IsOf (length s.made))) os g (of_dropped (length s.made) os k))
gfx_of OnGfx.Rectstroke os s g h k = of_beside s _ h
    (after_rectstroke (Each (IsOf (length s.made))) os g (of_dropped (length s.made) os k))
gfx_of OnGfx.Rectclip os s g h k = of_beside s _ h
    (after_rectclip (Each (IsOf (length s.made))) os g (of_dropped (length s.made) os k))
gfx_of OnGfx.Erasepage os s g h k = ((h, omega arith), k)
gfx_of OnGfx.Setpagedevice os s g h k = of_beside s _ h
    (after_setpagedevice (Each (IsOf (length s.made))) os s g (of_dropped (length s.made) os k))
