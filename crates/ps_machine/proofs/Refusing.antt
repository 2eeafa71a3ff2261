-- A string or a procedure that a limit refuses.
use Rattle.std.proofs.Common.{◌≡◌, ◌<◌, List, [], ◌∷◌, length, refl, codes, arith, ℕ}
use Rattle.ps_store.specs.declared.obj.Obj.{Obj}
use Rattle.press_fault.specs.declared.names.PsName.TheVariants.{LimitCheck}
use Rattle.ps_machine.specs.State.{BodyValue}
use Rattle.ps_machine.specs.Reading.{unmade}
use Rattle.ps_machine.specs.Errors.{failed}

-- inside an open procedure it is the scanner's limit
pub inside : (unclosed : List (List Obj)) (s : BodyValue) → 0 < length unclosed →
    unmade unclosed s ≡ failed LimitCheck (codes "scan") s
inside [] s h = absurd (omega (arith, h))
inside (elements ∷ outer) s h = refl
