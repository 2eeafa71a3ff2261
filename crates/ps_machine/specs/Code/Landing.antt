-- What a call answered is where an error goes. Own rule: words of the code alone; Errors has the rule.
use Rattle.std.specs.Prelude.{◌≡◌, List, Option, Some, None}
use Rattle.ps_store.specs.declared.obj.Obj.{Obj}
use Rattle.ps_flow.specs.declared.level.Level.{Level}
use Rattle.ps_machine.specs.declared.turn.End.{End}
use Rattle.ps_machine.specs.declared.turn.End.TheVariants.{Ps}
use Rattle.ps_machine.specs.Errors.{Caught, Lands, Falls}

-- what a call answered is where an error goes: the operands and levels there, or the end of the program
abbrev pub IsCaught : Caught → Option End → List Obj → List Level → Type 0
IsCaught caught None operands levels = caught ≡ Lands operands levels
IsCaught caught (Some (Ps name command)) operands levels = caught ≡ Falls name command
IsCaught caught (Some end) operands levels = ⊥
