-- What graphics operators work on. Own rule: the operands, and the graphics state with its page.
use Rattle.std.specs.Prelude.{List}
use Rattle.ps_store.specs.declared.obj.Obj.{Obj}
use Rattle.gfx_state.specs.Graphics.{GfxValue}

-- the operands, and the graphics state with its page
pub record OperandsAndGraphics : Type 0 where
  -- the operands, the top first
  pub operands : List Obj
  -- the graphics state, its saved copies and the marks of the page
  pub graphics : GfxValue
