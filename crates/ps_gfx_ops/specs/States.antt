-- Saved graphics states (PostScript Language Reference, third edition, 8.2 Operator Details: gsave, grestore,
-- grestoreall, initgraphics). Own rule: at most 32 states are saved.
use Rattle.std.specs.Prelude.{List}
use Rattle.ps_store.specs.declared.obj.Obj.{Obj}
use Rattle.ps_store.specs.Outcome.{Outcome, Goes, or_limit}
use Rattle.gfx_state.specs.Graphics.{GfxValue, saved_state}
use Rattle.ps_gfx_ops.specs.Easel.{OperandsAndGraphics}

-- `gsave`: the current state is saved, limitcheck where 32 states are
abbrev pub gsave_row : List Obj → GfxValue → Outcome OperandsAndGraphics
gsave_row operands g = or_limit (saved_state g) (λ now. Goes (record { operands = operands; graphics = now }))
