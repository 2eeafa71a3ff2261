-- What graphics operators work on where they also read or make composites. Own rule: an easel beside the store.
use Rattle.std.specs.Prelude.{List}
use Rattle.ps_store.specs.declared.obj.Obj.{Obj}
use Rattle.ps_store.specs.Outcome.{Outcome, Goes, Refuses}
use Rattle.ps_store.specs.Store.{StoreValue}
use Rattle.gfx_state.specs.Graphics.{GfxValue}
use Rattle.ps_gfx_ops.specs.Easel.{OperandsAndGraphics}

-- the operands, the store, and the graphics state with its page
pub record GraphicsScene : Type 0 where
  -- the operands, the top first
  pub operands : List Obj
  -- the strings, arrays and dictionaries that were made
  pub store : StoreValue
  -- the graphics state, its saved copies and the marks of the page
  pub graphics : GfxValue

-- the row of an operator that leaves the store as it is
abbrev pub beside : StoreValue → Outcome OperandsAndGraphics → Outcome GraphicsScene
beside s (Goes easel) = Goes (record { operands = easel.operands; store = s; graphics = easel.graphics })
beside s (Refuses name) = Refuses name
