-- An operator that leaves the store as it is.
use Rattle.std.proofs.Common.{◌≡◌, ◌≢◌, Result, Ok, Err, refl, sym, ◌∙◌, ap}
use Rattle.ps_store.specs.declared.fault.OpFault.{OpFault}
use Rattle.ps_store.specs.declared.fault.OpFault.TheVariants.{Ps, NoMemory}
use Rattle.ps_store.specs.Store.{StoreValue}
use Rattle.ps_store.specs.Outcome.{Outcome, Goes, Refuses, Answers, TellsRefusal}
use Rattle.ps_gfx_ops.specs.Easel.{OperandsAndGraphics}
use Rattle.ps_gfx_ops.specs.Scene.{GraphicsScene, beside}

scene : StoreValue → OperandsAndGraphics → GraphicsScene
scene s easel = record { operands = easel.operands; store = s; graphics = easel.graphics }

-- what it answers on operands and graphics, it answers on these and the store
pub besides : (s : StoreValue) (outcome : Outcome OperandsAndGraphics) (r : Result (Unit {0}) OpFault)
    (old new : OperandsAndGraphics) → Answers outcome r old new →
    Answers (beside s outcome) r (record { operands = old.operands; store = s; graphics = old.graphics })
    (record { operands = new.operands; store = s; graphics = new.graphics })
unfolding scene
besides s outcome (Ok u) old new h = ap (beside s) h
besides s outcome (Err (Ps name)) old new h = (ap (beside s) h.0, ap (scene s) h.1)
besides s outcome (Err NoMemory) old new h = tt

-- what it refuses on operands and graphics, it refuses on these and the store
pub told : (s : StoreValue) (outcome : Outcome OperandsAndGraphics) (r : Result (Unit {0}) OpFault) →
    TellsRefusal outcome r → TellsRefusal (beside s outcome) r
unfolding scene
told s (Goes easel) r tells name refused = absurd (cc)
told s (Refuses cause) r tells name refused = let because : cause ≡ name = cc in tells name (ap Refuses because)

-- what takes no memory tells each refusal
pub told_without_memory : (s : StoreValue) (outcome : Outcome OperandsAndGraphics) (r : Result (Unit {0}) OpFault)
    (old new : OperandsAndGraphics) → Answers outcome r old new → r ≢ Err NoMemory → TellsRefusal (beside s outcome) r
told_without_memory s outcome (Ok u) old new h never = told s outcome (Ok u) (λ name refused. absurd (cc))
told_without_memory s outcome (Err (Ps cause)) old new h never =
    told s outcome (Err (Ps cause)) (λ name refused. let because : Refuses cause ≡ Refuses name = sym h.0 ∙ refused in
    cc)
told_without_memory s outcome (Err NoMemory) old new h never =
    told s outcome (Err NoMemory) (λ name refused. absurd (never refl))
