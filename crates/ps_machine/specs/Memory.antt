-- Which operators and objects may find no memory. Own rule: every other one does what its definition says, also where
-- there is none.
use Rattle.std.specs.Prelude.{Bool, true, false, Option, Some}
use Rattle.ps_store.specs.declared.obj.Obj.{Obj}
use Rattle.ps_store.specs.declared.obj.Obj.TheVariants.{Name, Oper as Operator}
use Rattle.ps_store.specs.declared.key.Key.TheVariants.{Named}
use Rattle.ps_store.specs.declared.oper.Oper.{Oper}
use Rattle.ps_store.specs.declared.oper.Oper.TheVariants.{Stack, Data, Flow, Gfx, Image}
use Rattle.ps_store.specs.declared.oper.StackOp.TheVariants.{Copy}
use Rattle.ps_store.specs.Dicts.{find_key}
use Rattle.ps_data_ops.specs.Rows.{takes_memory as data_takes_memory}
use Rattle.ps_flow.specs.Rows.{takes_memory as flow_takes_memory}
use Rattle.ps_gfx_ops.specs.Rows.{takes_memory as gfx_takes_memory}
use Rattle.ps_machine.specs.State.{BodyValue}

-- the operators that may run out of memory: `copy`, those that the operators' crates name, and those on images
unfoldable pub takes_memory : Oper → Bool
takes_memory (Stack Copy) = true
takes_memory (Data op) = data_takes_memory op
takes_memory (Flow op) = flow_takes_memory op
takes_memory (Gfx op) = gfx_takes_memory op
takes_memory (Image op) = true
takes_memory op = false

-- what a name stands for takes memory where it is an operator that does
abbrev pub value_takes_memory : Option Obj → Bool
value_takes_memory (Some (Operator op)) = takes_memory op
value_takes_memory found = false

-- an object that is executed takes memory where it is such an operator, or a name of one
abbrev pub object_takes_memory : Obj → BodyValue → Bool
object_takes_memory (Name name true) s = value_takes_memory (find_key s.store s.dicts (Named name))
object_takes_memory (Operator op) s = takes_memory op
object_takes_memory o s = false
