-- Colour operators (PostScript Language Reference, third edition, 8.2 Operator Details: currentgray,
-- setgray, setrgbcolor, setcmykcolor), each by its operands, the top first: enough of them, then their types.
use Rattle.std.specs.Prelude.{ℤ, List, drop}
use Rattle.ps_store.specs.declared.obj.Obj.{Obj}
use Rattle.ps_store.specs.declared.obj.Obj.TheVariants.{Real}
use Rattle.ps_store.specs.Outcome.{Outcome, Goes, Refuses, pushed, or_refusal}
use Rattle.gfx_state.specs.declared.colour.Space.{Space}
use Rattle.gfx_state.specs.Colour.{channels_of, gray_of}
use Rattle.gfx_state.specs.Graphics.{GfxValue, with_space, with_colour}
use Rattle.ps_gfx_ops.specs.Easel.{OperandsAndGraphics}
use Rattle.ps_gfx_ops.specs.Points.{top_numbers}

-- the graphics state with a colour space and a colour of it
abbrev pub painted_with : GfxValue → Space → List ℤ → GfxValue
painted_with g space values = with_colour (with_space g space) values

-- `setgray`, `setrgbcolor` and `setcmykcolor`: their space, and a colour of it by as many numbers as it has channels
abbrev pub colour_row : Space → List Obj → GfxValue → Outcome OperandsAndGraphics
colour_row space operands g =
    or_refusal (top_numbers (channels_of space) operands) (λ values.
    Goes (record { operands = drop (channels_of space) operands; graphics = painted_with g space values }))

-- an operator that leaves the graphics as they are
abbrev pub on_easel : GfxValue → Outcome (List Obj) → Outcome OperandsAndGraphics
on_easel g (Goes operands) = Goes (record { operands = operands; graphics = g })
on_easel g (Refuses name) = Refuses name

-- `currentgray`: a real number on top, where there is room for one, else stackoverflow
abbrev pub currentgray_row : List Obj → GfxValue → Outcome OperandsAndGraphics
currentgray_row operands g = on_easel g (pushed (Real (gray_of g.state.space g.state.code.c)) operands)
