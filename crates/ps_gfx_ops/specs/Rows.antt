-- The rows of the graphics operators: what each does to the operands, the store, the graphics state and the page
-- (PostScript Language Reference, third edition, 8.2 Operator Details). Own rule: the order of refusals.
use Rattle.std.specs.Prelude.{List, Bool, true, false}
use Rattle.page_model.specs.declared.shape.Rule.TheVariants.{Nonzero, EvenOdd}
use Rattle.ps_store.specs.declared.obj.Obj.{Obj}
use Rattle.ps_store.specs.declared.oper.GfxOp.{GfxOp}
use Rattle.ps_store.specs.declared.oper.GfxOp.TheVariants as OnGfx
use Rattle.ps_store.specs.Outcome.{Outcome, Goes}
use Rattle.ps_store.specs.Store.{StoreValue}
use Rattle.geo_path.specs.Path.{closed}
use Rattle.gfx_state.specs.declared.colour.Space.TheVariants.{Gray, Rgb, Cmyk}
use Rattle.gfx_state.specs.Graphics.{GfxValue, erased, restored, all_restored, with_initial, with_initial_clip}
use Rattle.gfx_state.specs.Graphics.{with_default_matrix, with_path, no_path}
use Rattle.ps_gfx_ops.specs.Scene.{GraphicsScene, beside}
use Rattle.ps_gfx_ops.specs.States.{gsave_row}
use Rattle.ps_gfx_ops.specs.Colours.{currentgray_row, colour_row}
use Rattle.ps_gfx_ops.specs.Lines.{setlinewidth_row, setmiterlimit_row, setlinecap_row, setlinejoin_row, setdash_row}
use Rattle.ps_gfx_ops.specs.Lines.{currentlinewidth_row}
use Rattle.ps_gfx_ops.specs.Matrices.{matrix_row, currentmatrix_row, setmatrix_row, concat_row, translate_row}
use Rattle.ps_gfx_ops.specs.Matrices.{scale_row, rotate_row, transform_row, itransform_row}
use Rattle.ps_gfx_ops.specs.Paths.{moveto_row, lineto_row, rmoveto_row, rlineto_row, curveto_row, rcurveto_row, arc_row}
use Rattle.ps_gfx_ops.specs.Paths.{currentpoint_row, fill_row, stroke_row, stroke_start, clip_row}
use Rattle.ps_gfx_ops.specs.Devices.{setpagedevice_row}
use Rattle.ps_gfx_ops.specs.Rectangles.{rectfill_row, rectstroke_row, rectstroke_start, rectclip_row}

-- an operator without operands that is never refused, as `grestore`, `newpath` and `erasepage`
abbrev pub becomes : GfxValue → List Obj → StoreValue → Outcome GraphicsScene
becomes g operands s = Goes (record { operands = operands; store = s; graphics = g })

-- what each graphics operator does to the operands, the store and the graphics state: enough operands, then their
-- types, then its own conditions, and last stackoverflow and limitcheck, where its row has no order of its own
unfoldable pub gfx_row : GfxOp → List Obj → StoreValue → GfxValue → Outcome GraphicsScene
gfx_row OnGfx.Gsave operands s g = beside s (gsave_row operands g)
gfx_row OnGfx.Grestore operands s g = becomes (restored g) operands s
gfx_row OnGfx.Grestoreall operands s g = becomes (all_restored g) operands s
gfx_row OnGfx.Initgraphics operands s g = becomes (with_initial g) operands s
gfx_row OnGfx.Setlinewidth operands s g = beside s (setlinewidth_row operands g)
gfx_row OnGfx.Setmiterlimit operands s g = beside s (setmiterlimit_row operands g)
gfx_row OnGfx.Setlinecap operands s g = beside s (setlinecap_row operands g)
gfx_row OnGfx.Setlinejoin operands s g = beside s (setlinejoin_row operands g)
gfx_row OnGfx.Setdash operands s g = beside s (setdash_row operands s g)
gfx_row OnGfx.Currentlinewidth operands s g = beside s (currentlinewidth_row operands g)
gfx_row OnGfx.Currentgray operands s g = beside s (currentgray_row operands g)
gfx_row OnGfx.Setgray operands s g = beside s (colour_row Gray operands g)
gfx_row OnGfx.Setrgbcolor operands s g = beside s (colour_row Rgb operands g)
gfx_row OnGfx.Setcmykcolor operands s g = beside s (colour_row Cmyk operands g)
gfx_row OnGfx.Matrix operands s g = matrix_row operands s g
gfx_row OnGfx.Currentmatrix operands s g = currentmatrix_row operands s g
gfx_row OnGfx.Setmatrix operands s g = beside s (setmatrix_row operands s g)
gfx_row OnGfx.Concat operands s g = beside s (concat_row operands s g)
gfx_row OnGfx.Initmatrix operands s g = becomes (with_default_matrix g) operands s
gfx_row OnGfx.Translate operands s g = beside s (translate_row operands g)
gfx_row OnGfx.Scale operands s g = beside s (scale_row operands g)
gfx_row OnGfx.Rotate operands s g = beside s (rotate_row operands g)
gfx_row OnGfx.Transform operands s g = beside s (transform_row operands g)
gfx_row OnGfx.Itransform operands s g = beside s (itransform_row operands g)
gfx_row OnGfx.Newpath operands s g = becomes (with_path g no_path) operands s
gfx_row OnGfx.Closepath operands s g = becomes (with_path g (closed g.state.path)) operands s
gfx_row OnGfx.Initclip operands s g = becomes (with_initial_clip g) operands s
gfx_row OnGfx.Moveto operands s g = beside s (moveto_row operands g)
gfx_row OnGfx.Lineto operands s g = beside s (lineto_row operands g)
gfx_row OnGfx.Rmoveto operands s g = beside s (rmoveto_row operands g)
gfx_row OnGfx.Rlineto operands s g = beside s (rlineto_row operands g)
gfx_row OnGfx.Curveto operands s g = beside s (curveto_row operands g)
gfx_row OnGfx.Rcurveto operands s g = beside s (rcurveto_row operands g)
gfx_row OnGfx.Arc operands s g = beside s (arc_row false operands g)
gfx_row OnGfx.Arcn operands s g = beside s (arc_row true operands g)
gfx_row OnGfx.Currentpoint operands s g = beside s (currentpoint_row operands g)
gfx_row OnGfx.Fill operands s g = beside s (fill_row Nonzero operands g)
gfx_row OnGfx.Eofill operands s g = beside s (fill_row EvenOdd operands g)
gfx_row OnGfx.Stroke operands s g = beside s (stroke_row operands g)
gfx_row OnGfx.Clip operands s g = beside s (clip_row Nonzero operands g)
gfx_row OnGfx.Eoclip operands s g = beside s (clip_row EvenOdd operands g)
gfx_row OnGfx.Rectfill operands s g = beside s (rectfill_row operands g)
gfx_row OnGfx.Rectstroke operands s g = beside s (rectstroke_row operands g)
gfx_row OnGfx.Rectclip operands s g = beside s (rectclip_row operands g)
gfx_row OnGfx.Erasepage operands s g = becomes (erased g) operands s
gfx_row OnGfx.Setpagedevice operands s g = beside s (setpagedevice_row operands s g)

-- the operators that may run out of memory: `gsave`, `grestoreall`, `setdash`, `matrix`, and those that draw or paint a
-- path, a rectangle or a clip
abbrev pub takes_memory : GfxOp → Bool
takes_memory OnGfx.Gsave = true
takes_memory OnGfx.Grestoreall = true
takes_memory OnGfx.Setdash = true
takes_memory OnGfx.Matrix = true
takes_memory OnGfx.Closepath = true
takes_memory OnGfx.Moveto = true
takes_memory OnGfx.Lineto = true
takes_memory OnGfx.Rmoveto = true
takes_memory OnGfx.Rlineto = true
takes_memory OnGfx.Curveto = true
takes_memory OnGfx.Rcurveto = true
takes_memory OnGfx.Arc = true
takes_memory OnGfx.Arcn = true
takes_memory OnGfx.Fill = true
takes_memory OnGfx.Eofill = true
takes_memory OnGfx.Stroke = true
takes_memory OnGfx.Clip = true
takes_memory OnGfx.Eoclip = true
takes_memory OnGfx.Rectfill = true
takes_memory OnGfx.Rectstroke = true
takes_memory OnGfx.Rectclip = true
takes_memory op = false

-- What is asked before any memory is: the whole row, but that the dashes and points of an outline aren't counted
-- before it is made.
abbrev pub row_before_memory : GfxOp → List Obj → StoreValue → GfxValue → Outcome GraphicsScene
row_before_memory OnGfx.Stroke operands s g = beside s (stroke_start operands g)
row_before_memory OnGfx.Rectstroke operands s g = beside s (rectstroke_start operands g)
row_before_memory op operands s g = gfx_row op operands s g
