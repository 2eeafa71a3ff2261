-- The graphics operators leave at most 500 operands.
use Rattle.std.specs.Prelude.{nat_lt, true, false}
use Rattle.std.proofs.Common.{◌≤◌, ◌<◌, List, [], ◌∷◌, length, Option, Some, None, arith}
use Rattle.std.proofs.lemmas.Bool.{ltb-true}
use Rattle.std.proofs.lemmas.List.{length-drop}
use Rattle.ps_store.specs.declared.obj.Obj.{Obj}
use Rattle.ps_store.specs.declared.obj.Obj.TheVariants.{Array, Real}
use Rattle.ps_store.specs.declared.obj.Part.{Part}
use Rattle.ps_store.specs.declared.oper.GfxOp.{GfxOp}
use Rattle.ps_store.specs.declared.oper.GfxOp.TheVariants as OnGfx
use Rattle.ps_store.specs.Outcome.{Outcome, Goes, Refuses, or_limit}
use Rattle.ps_store.specs.Store.{StoreValue, with_array_of}
use Rattle.page_model.specs.declared.shape.Rule.TheVariants.{Nonzero, EvenOdd}
use Rattle.gfx_state.specs.declared.colour.Space.TheVariants.{Gray, Rgb, Cmyk}
use Rattle.gfx_state.specs.Colour.{gray_of}
use Rattle.gfx_state.specs.Graphics.{GfxValue}
use Rattle.geo_matrix.specs.Affine.{identity}
use Rattle.ps_gfx_ops.specs.Easel.{OperandsAndGraphics}
use Rattle.ps_gfx_ops.specs.Scene.{GraphicsScene, beside}
use Rattle.ps_gfx_ops.specs.Colours.{on_easel}
use Rattle.ps_gfx_ops.specs.Matrices.{elements_of, matrix_row, currentmatrix_row}
use Rattle.ps_gfx_ops.specs.Rows.{gfx_row}
use Rattle.ps_laws.proofs.Operands.{Few, by_test, few_pushed}
use Rattle.ps_laws.proofs.EaselRows.{After, Dropped, InPlace, OnTop, after_gsave, after_moveto, after_lineto}
use Rattle.ps_laws.proofs.EaselRows.{after_rmoveto, after_rlineto, after_curveto, after_rcurveto, after_arc}
use Rattle.ps_laws.proofs.EaselRows.{after_currentpoint, after_fill, after_setmatrix, after_concat, after_translate}
use Rattle.ps_laws.proofs.EaselRows.{after_scale, after_rotate, after_transform, after_itransform, after_stroke}
use Rattle.ps_laws.proofs.EaselRows.{after_clip, after_rectfill, after_rectstroke, after_rectclip, after_setlinewidth}
use Rattle.ps_laws.proofs.EaselRows.{after_setmiterlimit, after_setlinecap, after_setlinejoin, after_setdash}
use Rattle.ps_laws.proofs.EaselRows.{after_setpagedevice, after_colour}

abbrev pub AtMost500 : List Obj → Type 0
AtMost500 operands = length operands ≤ 500

abbrev pub FewOfEasel : Outcome OperandsAndGraphics → Type 0
FewOfEasel outcome = After AtMost500 outcome

-- a graphics operator that goes on leaves at most 500 operands
abbrev pub FewOfScene : Outcome GraphicsScene → Type 0
FewOfScene (Goes scene) = length scene.operands ≤ 500
FewOfScene (Refuses name) = Unit {0}

few_beside : (s : StoreValue) (outcome : Outcome OperandsAndGraphics) → FewOfEasel outcome →
    FewOfScene (beside s outcome)
few_beside s (Goes easel) h = h
few_beside s (Refuses name) h = tt

few_dropped : (os : List Obj) → length os ≤ 500 → Dropped AtMost500 os
few_dropped os h n = let l = length-drop n os in omega arith

few_in_place : (os : List Obj) → length os ≤ 500 → InPlace AtMost500 os
few_in_place os h a b = let l = length-drop 2 os in omega arith

few_on_top : (os : List Obj) → OnTop AtMost500 os
few_on_top os a b h = omega arith

few_on_easel : (g : GfxValue) (outcome : Outcome (List Obj)) → Few outcome → FewOfEasel (on_easel g outcome)
few_on_easel g (Goes operands) h = h
few_on_easel g (Refuses name) h = tt

few_new : (made : Option (Part × StoreValue)) (os : List Obj) (g : GfxValue) → length os < 500 →
    FewOfScene (or_limit made (λ new. Goes (record { operands = Array new.0 false ∷ os; store = new.1; graphics = g })))
few_new (Some new) os g h = omega arith
few_new None os g h = tt

few_matrix : (os : List Obj) (s : StoreValue) (g : GfxValue) → FewOfScene (matrix_row os s g)
few_matrix os s g = by_test FewOfScene (nat_lt (length os) 500) _ _
    (λ e. few_new (with_array_of s (elements_of identity)) os g (ltb-true (length os) 500 e)) (λ e. tt)

few_currentmatrix : (os : List Obj) (s : StoreValue) (g : GfxValue) → length os ≤ 500 →
    FewOfScene (currentmatrix_row os s g)
few_currentmatrix (Array p x ∷ rest) s g h = by_test FewOfScene (nat_lt p.len 6) (Refuses _) _ (λ e. tt) (λ e. h)
few_currentmatrix (o ∷ rest) s g h = tt
few_currentmatrix [] s g h = tt

-- each graphics operator leaves at most 500 operands
pub gfx_few : (op : GfxOp) (operands : List Obj) (s : StoreValue) (g : GfxValue) → length operands ≤ 500 →
    FewOfScene (gfx_row op operands s g)
unfolding gfx_row
gfx_few OnGfx.Gsave os s g h = few_beside s _ (after_gsave AtMost500 os g (few_dropped os h))
gfx_few OnGfx.Grestore os s g h = h
gfx_few OnGfx.Grestoreall os s g h = h
gfx_few OnGfx.Initgraphics os s g h = h
gfx_few OnGfx.Setlinewidth os s g h = few_beside s _ (after_setlinewidth AtMost500 os g (few_dropped os h))
gfx_few OnGfx.Setmiterlimit os s g h = few_beside s _ (after_setmiterlimit AtMost500 os g (few_dropped os h))
gfx_few OnGfx.Setlinecap os s g h = few_beside s _ (after_setlinecap AtMost500 os g (few_dropped os h))
gfx_few OnGfx.Setlinejoin os s g h = few_beside s _ (after_setlinejoin AtMost500 os g (few_dropped os h))
gfx_few OnGfx.Setdash os s g h = few_beside s _ (after_setdash AtMost500 os s g (few_dropped os h))
gfx_few OnGfx.Currentlinewidth os s g h = few_beside s _ (few_on_easel g _ (few_pushed (Real g.state.line.width) os))
gfx_few OnGfx.Currentgray os s g h = few_beside s _
    (few_on_easel g _ (few_pushed (Real (gray_of g.state.space g.state.code.c)) os))
gfx_few OnGfx.Setgray os s g h = few_beside s _ (after_colour AtMost500 Gray os g (few_dropped os h))
gfx_few OnGfx.Setrgbcolor os s g h = few_beside s _ (after_colour AtMost500 Rgb os g (few_dropped os h))
gfx_few OnGfx.Setcmykcolor os s g h = few_beside s _ (after_colour AtMost500 Cmyk os g (few_dropped os h))
gfx_few OnGfx.Matrix os s g h = few_matrix os s g
gfx_few OnGfx.Currentmatrix os s g h = few_currentmatrix os s g h
gfx_few OnGfx.Setmatrix os s g h = few_beside s _ (after_setmatrix AtMost500 os s g (few_dropped os h))
gfx_few OnGfx.Concat os s g h = few_beside s _ (after_concat AtMost500 os s g (few_dropped os h))
gfx_few OnGfx.Initmatrix os s g h = h
gfx_few OnGfx.Translate os s g h = few_beside s _ (after_translate AtMost500 os g (few_dropped os h))
gfx_few OnGfx.Scale os s g h = few_beside s _ (after_scale AtMost500 os g (few_dropped os h))
gfx_few OnGfx.Rotate os s g h = few_beside s _ (after_rotate AtMost500 os g (few_dropped os h))
gfx_few OnGfx.Transform os s g h = few_beside s _ (after_transform AtMost500 os g (few_in_place os h))
gfx_few OnGfx.Itransform os s g h = few_beside s _ (after_itransform AtMost500 os g (few_in_place os h))
gfx_few OnGfx.Newpath os s g h = h
gfx_few OnGfx.Closepath os s g h = h
gfx_few OnGfx.Initclip os s g h = h
gfx_few OnGfx.Moveto os s g h = few_beside s _ (after_moveto AtMost500 os g (few_dropped os h))
gfx_few OnGfx.Lineto os s g h = few_beside s _ (after_lineto AtMost500 os g (few_dropped os h))
gfx_few OnGfx.Rmoveto os s g h = few_beside s _ (after_rmoveto AtMost500 os g (few_dropped os h))
gfx_few OnGfx.Rlineto os s g h = few_beside s _ (after_rlineto AtMost500 os g (few_dropped os h))
gfx_few OnGfx.Curveto os s g h = few_beside s _ (after_curveto AtMost500 os g (few_dropped os h))
gfx_few OnGfx.Rcurveto os s g h = few_beside s _ (after_rcurveto AtMost500 os g (few_dropped os h))
gfx_few OnGfx.Arc os s g h = few_beside s _ (after_arc AtMost500 false os g (few_dropped os h))
gfx_few OnGfx.Arcn os s g h = few_beside s _ (after_arc AtMost500 true os g (few_dropped os h))
gfx_few OnGfx.Currentpoint os s g h = few_beside s _ (after_currentpoint AtMost500 os g (few_on_top os))
gfx_few OnGfx.Fill os s g h = few_beside s _ (after_fill AtMost500 Nonzero os g (few_dropped os h))
gfx_few OnGfx.Eofill os s g h = few_beside s _ (after_fill AtMost500 EvenOdd os g (few_dropped os h))
gfx_few OnGfx.Stroke os s g h = few_beside s _ (after_stroke AtMost500 os g (few_dropped os h))
gfx_few OnGfx.Clip os s g h = few_beside s _ (after_clip AtMost500 Nonzero os g (few_dropped os h))
gfx_few OnGfx.Eoclip os s g h = few_beside s _ (after_clip AtMost500 EvenOdd os g (few_dropped os h))
gfx_few OnGfx.Rectfill os s g h = few_beside s _ (after_rectfill AtMost500 os g (few_dropped os h))
gfx_few OnGfx.Rectstroke os s g h = few_beside s _ (after_rectstroke AtMost500 os g (few_dropped os h))
gfx_few OnGfx.Rectclip os s g h = few_beside s _ (after_rectclip AtMost500 os g (few_dropped os h))
gfx_few OnGfx.Erasepage os s g h = h
gfx_few OnGfx.Setpagedevice os s g h = few_beside s _ (after_setpagedevice AtMost500 os s g (few_dropped os h))
