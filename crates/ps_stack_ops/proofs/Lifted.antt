-- An operator that leaves the store as it is.
use Rattle.std.proofs.Common.{◌≡◌, ◌≢◌, List, Result, Ok, Err, refl, ap}
use Rattle.ps_store.specs.declared.fault.OpFault.{OpFault}
use Rattle.ps_store.specs.declared.fault.OpFault.TheVariants.{Ps, NoMemory}
use Rattle.ps_store.specs.declared.obj.Obj.{Obj}
use Rattle.ps_store.specs.Store.{StoreValue}
use Rattle.ps_store.specs.Desk.{OperandsAndStore}
use Rattle.ps_store.specs.Outcome.{Outcome, Goes, Refuses, Answers, TellsRefusal}
use Rattle.ps_stack_ops.specs.Rows.{on_operands}

desk : StoreValue → List Obj → OperandsAndStore
desk store operands = record { operands = operands; store = store }

-- what it answers on the operands, it answers on operands and store
pub lifted : (store : StoreValue) (outcome : Outcome (List Obj)) (r : Result (Unit {0}) OpFault) (old new : List Obj) →
    Answers outcome r old new → Answers (on_operands store outcome) r (record { operands = old; store = store })
    (record { operands = new; store = store })
unfolding desk
lifted store outcome (Ok u) old new h = ap (on_operands store) h
lifted store outcome (Err (Ps name)) old new h = (ap (on_operands store) h.0, ap (desk store) h.1)
lifted store outcome (Err NoMemory) old new h = tt

-- what took no memory tells each refusal
pub told : (store : StoreValue) (outcome : Outcome (List Obj)) (r : Result (Unit {0}) OpFault) (old new : List Obj) →
    Answers outcome r old new → r ≢ Err NoMemory → TellsRefusal (on_operands store outcome) r
unfolding desk
told store outcome (Ok u) old new h never name refused =
    let goes : on_operands store outcome ≡ Goes (desk store new) = ap (on_operands store) h in absurd (cc)
told store outcome (Err (Ps cause)) old new h never name refused =
    let because : on_operands store outcome ≡ Refuses cause = ap (on_operands store) h.0 in cc
told store outcome (Err NoMemory) old new h never name refused = absurd (never refl)
