-- What an operator on the execution stack changes and answers (PostScript Language Reference, third edition, 3.4
-- Stacks).
-- Own rule: at most 250 levels are open.
use Rattle.std.specs.Prelude.{◌≡◌, Result, Ok, Err, List, ◌∷◌, length, Option, None, nat_lt, if◌then◌else◌}
use Rattle.press_fault.specs.declared.names.PsName.TheVariants.{ExecStackOverflow}
use Rattle.ps_store.specs.declared.obj.Obj.{Obj}
use Rattle.ps_store.specs.declared.fault.OpFault.{OpFault}
use Rattle.ps_store.specs.declared.fault.OpFault.TheVariants.{Ps, NoMemory}
use Rattle.ps_store.specs.Store.{StoreValue}
use Rattle.ps_store.specs.Outcome.{Outcome, Goes, Refuses}
use Rattle.ps_flow.specs.declared.level.Level.{Level}

-- the operands, the levels, and an object that is to be executed at once
pub record OperandsAndLevels : Type 0 where
  pub operands : List Obj
  pub levels : List Level
  pub at_once : Option Obj

-- an operator opens a level, where fewer than 250 are open, else execstackoverflow
abbrev pub opens : Level → List Obj → List Level → Option Obj → Outcome OperandsAndLevels
opens level operands levels at_once =
    if nat_lt (length levels) 250
    then Goes (record { operands = operands; levels = level ∷ levels; at_once = at_once })
    else Refuses ExecStackOverflow

-- what the operators change: operands, levels and store
pub record FlowState : Type 0 where
  pub operands : List Obj
  pub levels : List Level
  pub store : StoreValue

-- an operator that leaves the store as it is
abbrev pub with_store : StoreValue → Outcome OperandsAndLevels → Outcome (OperandsAndLevels × StoreValue)
with_store store (Goes course) = Goes (course, store)
with_store store (Refuses name) = Refuses name

-- an operator that changes the store alone
abbrev pub with_levels : List Obj → List Level → Outcome StoreValue → Outcome (OperandsAndLevels × StoreValue)
with_levels operands levels (Goes store) = Goes (record { operands = operands; levels = levels; at_once = None }, store)
with_levels operands levels (Refuses name) = Refuses name

-- what a call answered is what the operator does: the new state, or its refusal, with all as before; or out of memory
abbrev pub FlowAnswers : Outcome OperandsAndLevels → Result (Option Obj) OpFault → List Obj → List Level → List Obj →
    List Level → Type 0
FlowAnswers outcome (Ok at_once) operands levels operands' levels' =
    outcome ≡ Goes (record { operands = operands'; levels = levels'; at_once = at_once })
FlowAnswers outcome (Err (Ps name)) operands levels operands' levels' =
    (outcome ≡ Refuses name) × (operands' ≡ operands) × (levels' ≡ levels)
FlowAnswers outcome (Err NoMemory) operands levels operands' levels' = Unit {0}

-- the same with the store
abbrev pub AnswersAll : Outcome (OperandsAndLevels × StoreValue) → Result (Option Obj) OpFault → FlowState → FlowState →
    Type 0
AnswersAll outcome (Ok at_once) old new =
    outcome ≡ Goes (record { operands = new.operands; levels = new.levels; at_once = at_once }, new.store)
AnswersAll outcome (Err (Ps name)) old new = (outcome ≡ Refuses name) × (new ≡ old)
AnswersAll outcome (Err NoMemory) old new = Unit {0}
