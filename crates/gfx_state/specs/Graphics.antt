-- The graphics state, its saved copies, and the page that is painted (PostScript Language Reference, third edition,
-- 4.2 Graphics State and 8.2 Operator Details). Own rules: the limits of saved states and clips, and of the dashes of
-- a stroke.
use Rattle.std.specs.Prelude.{ℕ, ℤ, pos, neg_ℤ, int_lt, unsigned_abs, ◌+◌, ◌*◌, List, [], ◌∷◌, ◌++◌, length, Bool, true}
use Rattle.std.specs.Prelude.{false, reverse, take, slice_get, Option, Some, None, Result, Ok, Err, nat_lt}
use Rattle.std.specs.Prelude.{if◌then◌else◌}
use Rattle.std.specs.Option.{option_map, option_and_then}
use Rattle.press_nums.specs.Rounding.{div_round}
use Rattle.press_nums.specs.Fix.{fix_of}
use Rattle.press_fault.specs.Plane.{PointValue, CodeValue}
use Rattle.geo_matrix.specs.Affine.{MatrixValue, identity}
use Rattle.geo_matrix.specs.Product.{concat_of}
use Rattle.geo_path.specs.declared.path.PathFault.{PathFault}
use Rattle.geo_path.specs.Path.{PathValue, count_of}
use Rattle.geo_path.specs.Flat.{PolylineValue, lines_of, rings_of}
use Rattle.geo_stroke.specs.Pen.{PenValue, cap_of, join_of}
use Rattle.geo_stroke.specs.Dash.{dash_count, outline_of}
use Rattle.page_model.specs.Image.{ImageValue}
use Rattle.page_model.specs.Marking.{RegionValue, MarkValue, PaintValue, Flatly, Pictured, Masked}
use Rattle.page_model.specs.Page.{PageValue}
use Rattle.page_model.specs.declared.shape.Rule.{Rule}
use Rattle.page_model.specs.declared.shape.Rule.TheVariants.{Nonzero}
use Rattle.page_model.specs.declared.shape.Shape.{Shape}
use Rattle.page_model.specs.declared.shape.Shape.TheVariants.{Poly}
use Rattle.page_model.specs.declared.mark.Ink.{Ink}
use Rattle.page_model.specs.declared.mark.Ink.TheVariants.{Plain}
use Rattle.gfx_state.specs.declared.colour.Space.{Space}
use Rattle.gfx_state.specs.declared.colour.Space.TheVariants.{Gray}
use Rattle.gfx_state.specs.Colour.{codes_of, first_colour}
use Rattle.gfx_state.specs.Lines.{LineStyleValue, initial_line}
use Rattle.gfx_state.specs.Stroke.{pen_of}
use Rattle.gfx_state.specs.Points.{ring_points, all_points}
use Rattle.gfx_state.specs.CurrentPage.{CurrentPageValue, blank_page, with_mark, has_room, has_image_room}

-- a page's size in dots, and the dots of an inch
pub record PageSize : Type 0 where
  pub width : ℕ
  pub height : ℕ
  pub res : ℕ

-- one graphics state: the current transformation matrix, the colour space, the colour's codes, the path, the clip with
-- its number, if it has one, the line parameters, and the number of the font's dictionary, none before a font is set
pub record StateValue : Type 0 where
  pub matrix : MatrixValue
  pub space : Space
  pub code : CodeValue
  pub path : PathValue
  pub clip : List RegionValue
  pub clip_number : Option ℕ
  pub line : LineStyleValue
  pub font : Option ℕ

-- the page's size, the current state, its saved copies (the last one saved first), how many of the first saved ones
-- `grestore` and `grestoreall` leave alone, how many clips were given a number, and the current page
pub record GfxValue : Type 0 where
  pub size : PageSize
  pub state : StateValue
  pub saved : List StateValue
  pub floor : ℕ
  pub clips : ℕ
  pub page : CurrentPageValue

-- dots for each point of 1/72 inch, as a raw number
abbrev pub dots_per_point : ℕ → ℤ
dots_per_point res = div_round (pos (res * 65536)) (pos 72)

-- the default matrix: the origin at the lower left corner of the page, and y up
unfoldable pub default_matrix : PageSize → MatrixValue
default_matrix size = record {
  a = dots_per_point size.res;
  b = pos 0;
  c = pos 0;
  d = neg_ℤ (dots_per_point size.res);
  tx = pos 0;
  ty = pos (size.height * 65536);
}

-- the path without subpaths
abbrev pub no_path : PathValue
no_path = record { before = []; last = None }

-- what `initgraphics` sets: the default matrix, black in gray, no path, no clip, the first line parameters; it leaves
-- the font
abbrev pub initial_state : PageSize → Option ℕ → StateValue
initial_state size font = record {
  matrix = default_matrix size;
  space = Gray;
  code = first_colour Gray;
  path =
      no_path;
  clip = [];
  clip_number = Some 0;
  line = initial_line;
  font = font;
}

-- a blank page, as a program finds it, with what `initgraphics` sets, no font and no saved state
abbrev pub opening : PageSize → GfxValue
opening size = record {
  size = size;
  state = initial_state size None;
  saved = [];
  floor = 0;
  clips = 0;
  page = blank_page;
}

-- From here on each call is written as `record g { .. }`: what it doesn't name stays as it is.

-- with another current state; size, saved states and marks stay
abbrev pub with_state : GfxValue → StateValue → GfxValue
with_state g state = record g { state = state }

-- the graphics state after `initgraphics`, which leaves the font, the saved states and the marks as they are
abbrev pub with_initial : GfxValue → GfxValue
with_initial g = with_state g (initial_state g.size g.state.font)

-- with a page without marks, on which all limits count from 0 again
abbrev pub erased : GfxValue → GfxValue
erased g = record g { page = blank_page }

-- a blank page of another size in dots, with what `initgraphics` sets; the saved states and the dots of an inch stay
abbrev pub resized : GfxValue → ℕ → ℕ → GfxValue
resized g width height = with_initial (erased
    (record g { size = record { width = width; height = height; res = g.size.res } }))

-- with another current transformation matrix
abbrev pub with_matrix : GfxValue → MatrixValue → GfxValue
with_matrix g matrix = with_state g (record g.state { matrix = matrix })

-- with the default matrix
abbrev pub with_default_matrix : GfxValue → GfxValue
with_default_matrix g = with_matrix g (default_matrix g.size)

-- with a matrix put before the current one, where each element of the product is a real number
abbrev pub concatenated : GfxValue → MatrixValue → Option GfxValue
concatenated g matrix = option_map (with_matrix g) (concat_of matrix g.state.matrix)

-- the matrix that moves the origin to (x, y)
abbrev pub translation : ℤ → ℤ → MatrixValue
translation x y = record identity { tx = x; ty = y }

-- the matrix that makes the units of x and y so many times as long
abbrev pub scaling : ℤ → ℤ → MatrixValue
scaling x y = record identity { a = x; d = y }

-- with another path
abbrev pub with_path : GfxValue → PathValue → GfxValue
with_path g path = with_state g (record g.state { path = path })

-- with the path that a call on it answers, or its refusal
abbrev pub with_answer : GfxValue → Result PathValue PathFault → Result GfxValue PathFault
with_answer g (Ok path) = Ok (with_path g path)
with_answer g (Err fault) = Err fault

-- with another colour space, and its first colour
abbrev pub with_space : GfxValue → Space → GfxValue
with_space g space = with_state g (record g.state { space = space; code = first_colour space })

-- with another colour of the same space
abbrev pub with_colour : GfxValue → List ℤ → GfxValue
with_colour g values = with_state g (record g.state { code = codes_of values })

-- with the font of a dictionary
abbrev pub with_font : GfxValue → ℕ → GfxValue
with_font g dict = with_state g (record g.state { font = Some dict })

-- with other line parameters
abbrev pub with_line : GfxValue → LineStyleValue → GfxValue
with_line g line = with_state g (record g.state { line = line })

-- with another line width, taken without its sign, where that is a real number
abbrev pub with_width : GfxValue → ℤ → Option GfxValue
with_width g width = option_map (λ magnitude. with_line g (record g.state.line { width = magnitude }))
    (fix_of (pos (unsigned_abs width)))

-- with the cap of a number, refused where it is none of 0, 1 and 2
abbrev pub with_cap : GfxValue → ℤ → Option GfxValue
with_cap g number = option_map (λ cap. with_line g (record g.state.line { cap = cap })) (cap_of number)

-- with the join of a number, refused where it is none of 0, 1 and 2
abbrev pub with_join : GfxValue → ℤ → Option GfxValue
with_join g number = option_map (λ join. with_line g (record g.state.line { join = join })) (join_of number)

-- with another miter limit, refused below 1
abbrev pub with_miter : GfxValue → ℤ → Option GfxValue
with_miter g limit = if int_lt limit (pos 65536) then None
    else Some (with_line g (record g.state.line { miter = limit }))

-- with other dashes and another offset
abbrev pub with_dash : GfxValue → List ℤ → ℤ → GfxValue
with_dash g dashes offset = with_line g (record g.state.line { dashes = dashes; offset = offset })

-- the number of the next clip, 0 being that of the whole page; none once 4,294,967,294 are given
abbrev pub next_number : ℕ → Option ℕ
next_number clips = if nat_lt clips 4294967294 then Some (clips + 1) else None

-- how many clips were given a number, with the next clip
abbrev pub next_count : ℕ → ℕ
next_count clips = if nat_lt clips 4294967294 then clips + 1 else clips

-- with another clip, which takes the next number
abbrev pub with_clip : GfxValue → List RegionValue → GfxValue
with_clip g clip = record g {
  state = record g.state { clip = clip; clip_number = next_number g.clips };
  clips = next_count g.clips;
}

-- a path as a region of a clip: the rings of its subpaths
abbrev pub region_of : Rule → PathValue → RegionValue
region_of rule path = record { rule = rule; rings = rings_of (lines_of path) }

-- with a path as one more region of the clip, at most 256
abbrev pub clipped_to : GfxValue → Rule → PathValue → Option GfxValue
clipped_to g rule path =
    if nat_lt (length g.state.clip) 256
    then Some (with_clip g (g.state.clip ++ region_of rule path ∷ []))
    else None

-- with the current path as one more region of the clip; the path stays
abbrev pub clipped : GfxValue → Rule → Option GfxValue
clipped g rule = clipped_to g rule g.state.path

-- with the whole page as the clip: no regions
abbrev pub with_initial_clip : GfxValue → GfxValue
with_initial_clip g = with_state g (record g.state { clip = []; clip_number = Some 0 })

-- with a copy of the current state saved, at most 32
abbrev pub saved_state : GfxValue → Option GfxValue
saved_state g = if nat_lt (length g.saved) 32 then Some (record g { saved = g.state ∷ g.saved }) else None

-- back to the state saved last, which isn't saved any more; nothing where none is saved
abbrev pub back_to : GfxValue → List StateValue → GfxValue
back_to g [] = g
back_to g (state ∷ saved) = record g { state = state; saved = saved }

-- what `grestore` does: the state saved last is the current one again; nothing changes where none is saved but those
-- that are left alone
abbrev pub restored : GfxValue → GfxValue
restored g = if nat_lt g.floor (length g.saved) then back_to g g.saved else g

-- of the saved states, the last one saved first, the one that was saved first above so many others
abbrev pub first_above : ℕ → List StateValue → Option StateValue
first_above floor saved = slice_get (reverse saved) floor

-- the saved states up to that one, which is the last of them saved
abbrev pub up_to_first_above : ℕ → List StateValue → List StateValue
up_to_first_above floor saved = reverse (take (floor + 1) (reverse saved))

-- back to a saved state, which stays saved, with those saved before it; nothing where there is none
abbrev pub back_to_first : GfxValue → Option StateValue → GfxValue
back_to_first g None = g
back_to_first g (Some state) = record g { state = state; saved = up_to_first_above g.floor g.saved }

-- what `grestoreall` does: of the saved states that it doesn't leave alone, the one saved first is the current one
-- again, and stays the only one saved
abbrev pub all_restored : GfxValue → GfxValue
all_restored g = back_to_first g (first_above g.floor g.saved)

-- a mark of shapes that paints with this, cut by the current clip
abbrev pub mark_with : StateValue → Rule → List Shape → PaintValue → MarkValue
mark_with state rule shapes paint = record {
  rule = rule;
  shapes = shapes;
  clip = state.clip;
  clip_number = state.clip_number;
  paint = paint;
}

-- with one mark more on the page, cut by the current clip
abbrev pub with_paint : GfxValue → Rule → List Shape → PaintValue → GfxValue
with_paint g rule shapes paint = record g { page = with_mark g.page (mark_with g.state rule shapes paint) }

-- the ink of the current colour: its codes as they are, by no source
abbrev pub ink_of : StateValue → Ink
ink_of state = Plain state.code

-- with one mark more on the page that paints with the current colour, whose ink is chosen here and nowhere else
abbrev pub added : GfxValue → Rule → List Shape → (Ink → PaintValue) → GfxValue
added g rule shapes paint = with_paint g rule shapes (paint (ink_of g.state))

-- the page with a mark of rings, one polygon in the current colour, where it has room
abbrev pub painted : GfxValue → Rule → List (List PointValue) → Option GfxValue
painted g rule rings =
    if has_room g.page (ring_points rings) then Some (added g rule (Poly rings ∷ []) Flatly) else None

-- the page with one mark more, a polygon of all subpaths, flattened, refused where it has no room; a path without a
-- point makes no mark; the path is empty then
abbrev pub filled : GfxValue → Rule → Option GfxValue
filled g rule =
    if nat_lt 0 (count_of g.state.path)
    then option_map (λ page. with_path page no_path) (painted g rule (rings_of (lines_of g.state.path)))
    else Some (with_path g no_path)

-- the page with a mark of the shapes of a stroke in the current colour, if there are any, where it has room
abbrev pub marked : GfxValue → List Shape → Option GfxValue
marked g [] = Some g
marked g (shape ∷ rest) =
    if has_room g.page (all_points (shape ∷ rest)) then Some (added g Nonzero (shape ∷ rest) Flatly) else None

-- the shapes that a pen paints along lines, where it makes at most 65,536 dashes
abbrev pub outlined : List PolylineValue → PenValue → Option (List Shape)
outlined lines pen = if nat_lt 65536 (dash_count pen lines) then None else Some (outline_of pen lines)

-- the shapes of a stroke of a path, none where the pen is out of range or it makes over 65,536 dashes
abbrev pub stroke_of : StateValue → PathValue → Option (List Shape)
stroke_of state path = option_and_then (outlined (lines_of path)) (pen_of state.matrix state.line)

-- the page where a path is stroked
abbrev pub stroked_along : GfxValue → PathValue → Option GfxValue
stroked_along g path = option_and_then (marked g) (stroke_of g.state path)

-- the page where the current path is stroked, and the path is empty then
abbrev pub stroked : GfxValue → Option GfxValue
stroked g = option_map (λ page. with_path page no_path) (stroked_along g g.state.path)

-- the page with an image, which paints its samples, or with a mask, which paints the current colour; neither has shapes
abbrev pub with_image : Bool → GfxValue → ImageValue → GfxValue
with_image false g image = with_paint g Nonzero [] (Pictured image)
with_image true g image = added g Nonzero [] (Masked image)

-- the page with an image or a mask, where it has room for its samples, those of the rows that are there
abbrev pub image_marked : GfxValue → ImageValue → Bool → Option GfxValue
image_marked g image mask =
    if has_image_room g.page (length image.codes) then Some (with_image mask g image) else None

-- the page as it is given: its size, its marks, and how many sources they go by
abbrev pub page_of : GfxValue → PageValue
page_of g = record {
  width = g.size.width;
  height = g.size.height;
  sources = g.page.sources;
  marks = g.page.marks;
}
