-- What is true of a part is true of the whole.
use Rattle.std.proofs.Common.{◌≡◌, ◌≢◌, Result, Ok, Err, refl, ap}
use Rattle.ps_store.specs.declared.fault.OpFault.{OpFault}
use Rattle.ps_store.specs.declared.fault.OpFault.TheVariants.{Ps, NoMemory}
use Rattle.ps_store.specs.Outcome.{Outcome, Goes, Refuses, Answers, TellsRefusal}
use Rattle.ps_data_ops.specs.Rows.{within}

-- an answer about some of what operators work on is one about all of it
pub answers_within : {Part Whole : Type 0} (whole_with : Part → Whole) (outcome : Outcome Part)
    (result : Result (Unit {0}) OpFault) (old new : Part)
    → Answers outcome result old new → Answers (within whole_with outcome) result (whole_with old) (whole_with new)
answers_within whole_with outcome (Ok u) old new h = ap (within whole_with) h
answers_within whole_with outcome (Err (Ps name)) old new h = (ap (within whole_with) h.0, ap whole_with h.1)
answers_within whole_with outcome (Err NoMemory) old new h = tt

-- what took no memory tells each refusal
pub told : {Part Whole : Type 0} (whole_with : Part → Whole) (outcome : Outcome Part)
    (result : Result (Unit {0}) OpFault) (old new : Part)
    → Answers outcome result old new → result ≢ Err NoMemory → TellsRefusal (within whole_with outcome) result
told whole_with outcome (Ok u) old new h never name refused =
    let goes : within whole_with outcome ≡ Goes (whole_with new) = ap (within whole_with) h in absurd (cc)
told whole_with outcome (Err (Ps cause)) old new h never name refused =
    let because : within whole_with outcome ≡ Refuses cause = ap (within whole_with) h.0 in cc
told whole_with outcome (Err NoMemory) old new h never name refused = absurd (never refl)

-- a refusal that is told of a part is told of the whole
pub told_within : {Part Whole A : Type 0} (whole_with : Part → Whole) (outcome : Outcome Part)
    (result : Result A OpFault)
    → TellsRefusal outcome result → TellsRefusal (within whole_with outcome) result
told_within whole_with (Goes part) result h name refused = absurd (cc)
told_within whole_with (Refuses cause) result h name refused =
    let told_as : result ≡ Err (Ps cause) = h cause refl in cc
