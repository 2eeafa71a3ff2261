-- Where an error goes, by the levels below the innermost stopped.
use Rattle.std.proofs.lemmas.Bool.{le-leb, lt-leb}
use Rattle.std.proofs.Common.{suc, ◌≡◌, ◌∙◌, ◌<◌, ap, sym, refl, ℕ, Bool, true, false, List, [], ◌∷◌, length, Option}
use Rattle.std.proofs.Common.{Some, None, arith}
use Rattle.press_fault.specs.declared.names.PsName.{PsName}
use Rattle.std.specs.Prelude.{nat_lt, if◌then◌else◌, codes}
use Rattle.proof_words.proofs.Cases.{by_bool}
use Rattle.press_fault.specs.declared.names.PsName.TheVariants.{StackOverflow}
use Rattle.ps_store.specs.declared.obj.Obj.{Obj}
use Rattle.ps_store.specs.declared.obj.Obj.TheVariants.{Bool as Truth}
use Rattle.ps_flow.specs.declared.level.Level.{Level}
use Rattle.ps_flow.specs.Levels.{is_stopped, below_stopped}
use Rattle.ps_machine.specs.Errors.{Caught, Lands, Falls, caught}

-- levels below the innermost stopped, with it on top, catch the same
abbrev pub caught_above : PsName → List ℕ → Option (List Level) → List Obj → Caught
caught_above name command None operands = Falls name command
caught_above name command (Some below) operands =
    if nat_lt (length operands) 500 then Lands (Truth true ∷ operands) below
    else caught StackOverflow (codes "stopped") below operands

pub some_caught : (name : PsName) (command : List ℕ) (levels : List Level) (operands : List Obj) →
    caught name command levels operands ≡ caught_above name command (below_stopped levels) operands
some_caught name command [] operands = refl
some_caught name command (level ∷ below) operands = by_bool (is_stopped level)
    (λ e. rw e refl)
    (λ e. rw e (some_caught name command below operands))

-- fewer levels are left
pub fewer_levels : (levels below : List Level) → below_stopped levels ≡ Some below → length below < length levels
fewer_levels [] below h = cc
fewer_levels (level ∷ rest) below h = by_bool (is_stopped level)
    (λ e. let g : Some rest ≡ Some below = rw e at h in let same : rest ≡ below = cc in
    let n : length rest ≡ length below = ap length same in omega arith)
    (λ e. let g : below_stopped rest ≡ Some below = rw e at h in let less = fewer_levels rest below g in omega arith)

-- there is room for true
pub lands : (name : PsName) (command : List ℕ) (levels below : List Level) (operands after : List Obj) →
    below_stopped levels ≡ Some below → length operands < 500 → after ≡ Truth true ∷ operands →
    caught name command levels operands ≡ Lands after below
lands name command levels below operands after h room is =
    some_caught name command levels operands ∙ (ap (λ o. caught_above name command o operands) h
    ∙ rw (le-leb (suc (length operands)) 500 (omega (arith, room))) (ap (λ os. Lands os below) (sym is)))

-- there is none, and the error goes on as another one
pub goes_on : (name : PsName) (command : List ℕ) (levels below : List Level) (operands : List Obj) →
    below_stopped levels ≡ Some below → length operands ≡ 500 →
    caught name command levels operands ≡ caught StackOverflow (codes "stopped") below operands
goes_on name command levels below operands h full =
    some_caught name command levels operands ∙ (ap (λ o. caught_above name command o operands) h
    ∙ rw (lt-leb (suc (length operands)) 500 (omega (arith, full))) refl)

-- no stopped is open
pub falls : (name : PsName) (command : List ℕ) (levels : List Level) (operands : List Obj) →
    below_stopped levels ≡ None → caught name command levels operands ≡ Falls name command
falls name command levels operands h = some_caught name command levels operands
    ∙ ap (λ o. caught_above name command o operands) h
