-- Operators that leave at most 500 operands.
use Rattle.std.specs.Prelude.{nat_lt, if◌then◌else◌}
use Rattle.std.proofs.lemmas.Bool.{ltb-true, cond_both}
use Rattle.std.proofs.Common.{◌≡◌, ◌≤◌, ◌<◌, true, false, Bool, List, ◌∷◌, length, Result, Ok, Err, arith}
use Rattle.press_fault.specs.declared.names.PsName.{PsName}
use Rattle.ps_store.specs.declared.obj.Obj.{Obj}
use Rattle.ps_store.specs.Outcome.{Outcome, Goes, Refuses, pushed, with_value}

-- an operator that goes on leaves few operands
abbrev pub Few : Outcome (List Obj) → Type 0
Few (Goes operands) = length operands ≤ 500
Few (Refuses name) = Unit {0}

-- a test chooses
pub by_test : {S : Type 0} (P : S → Type 0) (b : Bool) (x y : S) → (b ≡ true → P x) → (b ≡ false → P y) →
    P (if b then x else y)
by_test P b x y f g = cond_both b x y P f g

-- a push leaves at most 500 operands
pub few_pushed : (o : Obj) (operands : List Obj) → Few (pushed o operands)
few_pushed o operands = by_test Few (nat_lt (length operands) 500) (Goes (o ∷ operands)) _
    (λ e. let h = ltb-true (length operands) 500 e in omega arith) (λ e. tt)

-- a value in the place of operands leaves at most 500
pub few_with_value : (value : Result Obj PsName) (rest : List Obj) → length rest < 500 → Few (with_value value rest)
few_with_value (Ok o) rest h = omega arith
few_with_value (Err name) rest h = tt
