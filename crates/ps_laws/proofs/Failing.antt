-- Errors, pushes and what is counted leave fewer steps, within the limits.
use Rattle.std.specs.Prelude.{nat_lt, codes}
use Rattle.std.proofs.lemmas.Bool.{ltb-true}
use Rattle.std.proofs.Common.{◌≡◌, ℕ, suc, ◌+◌, ◌*◌, ◌≤◌, ◌<◌, true, List, [], ◌∷◌, length, arith}
use Rattle.press_fault.specs.declared.names.PsName.{PsName}
use Rattle.press_fault.specs.declared.names.PsName.TheVariants.{StackOverflow}
use Rattle.ps_store.specs.declared.obj.Obj.{Obj}
use Rattle.ps_store.specs.declared.obj.Obj.TheVariants.{Bool as Truth}
use Rattle.ps_flow.specs.declared.level.Level.{Level}
use Rattle.ps_flow.specs.Levels.{is_stopped}
use Rattle.ps_machine.specs.State.{BodyValue}
use Rattle.ps_machine.specs.Errors.{StepOutcome, Goes, Caught, Lands, Falls, caught, after_caught, failed, pushes}
use Rattle.ps_machine.specs.Errors.{counted}
use Rattle.ps_laws.proofs.Weight.{budget, Lowers, Idle, Ready, Free, idle_zero}
use Rattle.ps_laws.proofs.Operands.{by_test}

-- an error leaves at most so many levels
abbrev CatchFits : ℕ → Caught → Type 0
CatchFits n (Lands operands levels) = (length operands ≤ 500) × (length levels ≤ n)
CatchFits n (Falls name command) = Unit {0}

catch_more : (n : ℕ) (c : Caught) → CatchFits n c → CatchFits (suc n) c
catch_more n (Lands operands levels) h = (h.0, omega arith)
catch_more n (Falls name command) h = tt

catch_fits : (levels : List Level) (name : PsName) (command : List ℕ) (operands : List Obj) →
    CatchFits (length levels) (caught name command levels operands)
catch_fits [] name command operands = tt
catch_fits (level ∷ below) name command operands =
    by_test (CatchFits (suc (length below))) (is_stopped level) _ (caught name command below operands)
    (λ e. by_test (CatchFits (suc (length below))) (nat_lt (length operands) 500) (Lands (Truth true ∷ operands) below)
    (caught StackOverflow (codes "stopped") below operands)
    (λ f. let l = ltb-true (length operands) 500 f in (omega arith, omega arith))
    (λ f. catch_more (length below) (caught StackOverflow (codes "stopped") below operands)
    (catch_fits below StackOverflow (codes "stopped") operands)))
    (λ e. catch_more (length below) (caught name command below operands) (catch_fits below name command operands))

lowers_caught : (n : ℕ) (s : BodyValue) (c : Caught) → Idle n s → CatchFits (length s.levels) c →
    Lowers n (after_caught s c)
lowers_caught n s (Lands operands levels) h f = ((f.0, omega arith, h.0.2, h.0.3), omega arith)
lowers_caught n s (Falls name command) h f = tt

-- an error leaves fewer steps, where nothing waits
pub lowers_failed : (n : ℕ) (name : PsName) (command : List ℕ) (s : BodyValue) → Idle n s →
    Lowers n (failed name command s)
lowers_failed n name command s h = lowers_caught n s (caught name command s.levels s.operands) h
    (catch_fits s.levels name command s.operands)

-- where no level is open, an error ends the program
ends_caught : (n : ℕ) (name : PsName) (command : List ℕ) (s : BodyValue) (levels : List Level) → levels ≡ [] →
    Lowers n (after_caught s (caught name command levels s.operands))
ends_caught n name command s [] e = tt
ends_caught n name command s (level ∷ below) e = absurd cc

-- where no level is open, an error ends the program
pub ends_failed : (n : ℕ) (name : PsName) (command : List ℕ) (s : BodyValue) → s.levels ≡ [] →
    Lowers n (failed name command s)
ends_failed n name command s e = ends_caught n name command s s.levels e

-- a push leaves fewer steps, where nothing waits
pub lowers_pushes : (n : ℕ) (command : List ℕ) (o : Obj) (s : BodyValue) → Idle n s → Lowers n (pushes command o s)
lowers_pushes n command o s h = by_test (Lowers n) (nat_lt (length s.operands) 500)
    (Goes (record s { operands = o ∷ s.operands })) (failed StackOverflow command s)
    (λ e. let l = ltb-true (length s.operands) 500 e in
    let w = idle_zero s.at_once (suc (length s.operands)) h.1 in
    ((omega arith, h.0.1, h.0.2, h.0.3), omega arith))
    (λ e. lowers_failed n StackOverflow command s h)

-- one object more is counted
pub lowers_counted : (n : ℕ) (s : BodyValue) (go : BodyValue → StepOutcome) → Free n s →
    ((t : BodyValue) → Ready n t → budget t + (2 + 2 * length t.operands) + length t.levels < n → Lowers n (go t)) →
    Lowers n (counted s go)
lowers_counted n s go h f = by_test (Lowers n) (nat_lt s.count 100000000) (go (record s { count = s.count + 1 })) _
    (λ e. let l = ltb-true s.count 100000000 e in
    let room : budget (record s { count = s.count + 1 }) + (2 + 2 * length s.operands) + length s.levels < n =
    omega arith in
    f (record s { count = s.count + 1 }) (h.0, h.1, omega arith) room)
    (λ e. tt)
