-- How many steps are left at most: 1,300 for each object that may still be executed and for each byte of the
-- text, and those that an object to be executed at once and the levels take.
use Rattle.std.proofs.Common.{◌≡◌, ℕ, ◌+◌, ◌-◌, ◌*◌, ◌≤◌, ◌<◌, length, Option, Some, None, refl, arith}
use Rattle.ps_store.specs.declared.obj.Obj.{Obj}
use Rattle.ps_machine.specs.State.{BodyValue}
use Rattle.ps_machine.specs.Errors.{StepOutcome, Goes, Shows, Ends}
use Rattle.ps_laws.specs.Limits.{IsLimited, KeepsLimits}

-- an object to be executed at once, over so many operands: exec and stopped may take one operand each
abbrev pub waiting : Option Obj → ℕ → ℕ
waiting None operands = 0
waiting (Some o) operands = 2 + 2 * operands

-- of objects and of bytes
abbrev pub budget : BodyValue → ℕ
budget s = 1300 * (100000000 - s.count) + 1300 * length s.text.rest

-- the steps that are left at most
abbrev pub weight : BodyValue → ℕ
weight s = budget s + waiting s.at_once (length s.operands) + length s.levels

-- the limits of a state: 500 operands, 250 levels, and 2 to 20 dictionaries
abbrev pub Limits : BodyValue → Type 0
Limits s = (length s.operands ≤ 500) × (length s.levels ≤ 250) × (length s.dicts ≤ 20) × (2 ≤ length s.dicts)

-- the limits are kept, and fewer than n steps are left
abbrev pub Below : ℕ → BodyValue → Type 0
Below n s = Limits s × (weight s < n)

-- a step leaves fewer than n steps within the limits, where the program goes on
abbrev pub Lowers : ℕ → StepOutcome → Type 0
Lowers n (Goes s) = Below n s
Lowers n (Shows page s) = Below n s
Lowers n (Ends end) = Unit {0}

-- no object waits, and there are steps for the levels
abbrev pub Idle : ℕ → BodyValue → Type 0
Idle n s = Limits s × (s.at_once ≡ None) × (budget s + length s.levels < n)

-- no object waits, and there are steps for one
abbrev pub Ready : ℕ → BodyValue → Type 0
Ready n s = Limits s × (s.at_once ≡ None) × (budget s + (2 + 2 * length s.operands) + length s.levels ≤ n)

-- no object waits, and there are steps for all that may still be executed
abbrev pub Free : ℕ → BodyValue → Type 0
Free n s = Limits s × (s.at_once ≡ None) × (budget s ≤ n)

-- where no object waits, none takes steps
pub idle_zero : (o : Option Obj) (k : ℕ) → o ≡ None → waiting o k ≡ 0
idle_zero None k e = refl
idle_zero (Some o) k e = cc

-- a state that has steps for one object has steps for its levels
pub idle : (n : ℕ) (s : BodyValue) → Ready n s → Idle n s
idle n s r = (r.0, r.1, omega arith)

-- a state that has steps for one object has steps for all that may still be executed
pub free : (n : ℕ) (s : BodyValue) → Ready n s → Free n s
free n s r = (r.0, r.1, omega arith)

-- the limits of a state, from the record that says them
pub limits : (s : BodyValue) → IsLimited s → Limits s
limits s h = (h.operands, h.levels, h.dicts, h.standard)

pub limited : (s : BodyValue) → Limits s → IsLimited s
limited s h = record { operands = h.0; levels = h.1; dicts = h.2; standard = h.3 }

-- a step that leaves fewer than n steps keeps the limits
pub keeps : (n : ℕ) (step : StepOutcome) → Lowers n step → KeepsLimits step
keeps n (Goes s) h = limited s h.0
keeps n (Shows page s) h = limited s h.0
keeps n (Ends end) h = tt
