-- What a call of a graphics operator answers (PostScript Language Reference, third edition, 3.11 Errors). Own rule: a
-- refused operator leaves all as it was, and out of memory may leave anything.
use Rattle.std.specs.Prelude.{List, Result}
use Rattle.ps_store.specs.declared.obj.Obj.{Obj}
use Rattle.ps_store.specs.declared.fault.OpFault.{OpFault}
use Rattle.ps_store.specs.Outcome.{Outcome, Answers}
use Rattle.ps_store.specs.Store.{StoreValue}
use Rattle.gfx_state.specs.Graphics.{GfxValue}
use Rattle.ps_gfx_ops.specs.Easel.{OperandsAndGraphics}
use Rattle.ps_gfx_ops.specs.Scene.{GraphicsScene}

-- a call answers its row on operands and graphics: they are the new ones, or it is refused with both as before, or out
-- of memory
abbrev pub GraphicsAnswers : Outcome OperandsAndGraphics → Result (Unit {0}) OpFault → List Obj → GfxValue → List Obj →
    GfxValue → Type 0
GraphicsAnswers outcome result operands g operands' g' =
    Answers outcome result (record { operands = operands; graphics = g })
    (record { operands = operands'; graphics = g' })

-- a call answers its row on operands, store and graphics: they are the new ones, or it is refused with all as before,
-- or out of memory
abbrev pub SceneAnswers : Outcome GraphicsScene → Result (Unit {0}) OpFault → List Obj → StoreValue → GfxValue →
    List Obj → StoreValue → GfxValue → Type 0
SceneAnswers outcome result operands s g operands' s' g' =
    Answers outcome result (record { operands = operands; store = s; graphics = g })
    (record { operands = operands'; store = s'; graphics = g' })
