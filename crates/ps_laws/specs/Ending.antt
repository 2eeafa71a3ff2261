-- Whether a program ends by a step of its own (PostScript Language Reference, third edition, 3.5 Execution).
use Rattle.std.specs.Prelude.{ℕ, zero, suc}
use Rattle.ps_machine.specs.State.{BodyValue}
use Rattle.ps_machine.specs.Errors.{StepOutcome, Goes, Shows, Ends}
use Rattle.ps_machine.specs.Reading.{step}

-- what holds of the state behind a step, where the program goes on
abbrev pub Afterwards : StepOutcome → (BodyValue → Type 0) → Type 0
Afterwards (Goes s) P = P s
Afterwards (Shows page s) P = P s
Afterwards (Ends end) P = Unit {0}

-- one of the next n steps ends the program
unfoldable pub EndsWithin : ℕ → BodyValue → Type 0
EndsWithin zero s = ⊥
EndsWithin (suc n) s = Afterwards (step s) (λ t. EndsWithin n t)
