-- What a turn of a loop pushes (PostScript Language Reference, third edition, 8.2 Operator Details, `for` and
-- `forall`).
use Rattle.std.specs.Prelude.{ℕ, List, ◌∷◌}
use Rattle.ps_store.specs.declared.obj.Obj.{Obj}
use Rattle.ps_flow.specs.declared.pushes.Pushes.{Pushes}
use Rattle.ps_flow.specs.declared.pushes.Pushes.TheVariants.{Nothing, One, Two}

-- the operands with what a turn pushes, a key below its value
abbrev pub with_pushes : Pushes → List Obj → List Obj
with_pushes Nothing operands = operands
with_pushes (One o) operands = o ∷ operands
with_pushes (Two key value) operands = value ∷ key ∷ operands

-- how many objects a turn pushes
abbrev pub number_of_pushes : Pushes → ℕ
number_of_pushes Nothing = 0
number_of_pushes (One o) = 1
number_of_pushes (Two key value) = 2
