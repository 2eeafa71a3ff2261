-- What a call of an operator answers (PostScript Language Reference, third edition, 3.11 Errors). Own rule: a refused
-- operator leaves all as it was, and out of memory may leave anything.
use Rattle.std.specs.Prelude.{List, Result}
use Rattle.ps_store.specs.declared.obj.Obj.{Obj}
use Rattle.ps_store.specs.declared.fault.OpFault.{OpFault}
use Rattle.ps_store.specs.Outcome.{Outcome, Answers}
use Rattle.ps_store.specs.Store.{StoreValue}
use Rattle.ps_store.specs.Desk.{OperandsAndStore}

-- a call answers its row on operands and store: they are the new ones, or it is refused with both as before, or out of
-- memory
abbrev pub StoreAnswers : Outcome OperandsAndStore → Result (Unit {0}) OpFault → List Obj → StoreValue → List Obj →
    StoreValue → Type 0
StoreAnswers outcome result operands store operands' store' =
    Answers outcome result (record { operands = operands; store = store })
    (record { operands = operands'; store = store' })
