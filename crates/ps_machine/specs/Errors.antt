-- What one step gives, and what an error does (PostScript Language Reference, third edition, 3.11 Errors).
-- Own rules: where an error inside stopped goes, and the command that it names.
use Rattle.std.specs.Prelude.{ℕ, ◌+◌, true, List, [], ◌∷◌, length, None, nat_lt, if◌then◌else◌, codes}
use Rattle.press_fault.specs.declared.names.PsName.{PsName}
use Rattle.press_fault.specs.declared.names.PsName.TheVariants.{StackOverflow, Timeout}
use Rattle.page_model.specs.Page.{PageValue}
use Rattle.ps_store.specs.declared.obj.Obj.{Obj}
use Rattle.ps_store.specs.declared.obj.Obj.TheVariants.{Bool as Truth}
use Rattle.ps_flow.specs.declared.level.Level.{Level}
use Rattle.ps_flow.specs.Levels.{is_stopped}
use Rattle.ps_machine.specs.declared.turn.End.{End}
use Rattle.ps_machine.specs.declared.turn.End.TheVariants.{Ps}
use Rattle.ps_machine.specs.State.{BodyValue, cut_back_to}

-- the program goes on, shows a page and goes on, or ends
pub data StepOutcome : Type 0 where
  Goes : BodyValue → StepOutcome
  Shows : PageValue → BodyValue → StepOutcome
  Ends : End → StepOutcome

-- where an error goes: to a stopped, with these operands and levels, or out of the program
pub data Caught : Type 0 where
  Lands : List Obj → List Level → Caught
  Falls : PsName → List ℕ → Caught

-- An error goes to the innermost stopped of these levels, which goes and gives true. Where there is no room for
-- it, that is stackoverflow in stopped, outside it.
abbrev pub caught : PsName → List ℕ → List Level → List Obj → Caught
caught name command [] operands = Falls name command
caught name command (level ∷ below) operands =
    if is_stopped level
    then (if nat_lt (length operands) 500 then Lands (Truth true ∷ operands) below
    else caught StackOverflow (codes "stopped") below operands)
    else caught name command below operands

-- the step by where an error goes: the program goes on there with all else as it is, without the operators whose
-- procedures were taken away, or ends by it
abbrev pub after_caught : BodyValue → Caught → StepOutcome
after_caught s (Lands operands levels) =
    Goes (record (cut_back_to levels s) { operands = operands; at_once = None })
after_caught s (Falls name command) = Ends (Ps name command)

-- an error of this name, whose command this is
abbrev pub failed : PsName → List ℕ → BodyValue → StepOutcome
failed name command s = after_caught s (caught name command s.levels s.operands)

-- an object is pushed, where fewer than 500 are held, else stackoverflow by this command
abbrev pub pushes : List ℕ → Obj → BodyValue → StepOutcome
pushes command o s =
    if nat_lt (length s.operands) 500 then Goes (record s { operands = o ∷ s.operands })
    else failed StackOverflow command s

-- what is executed, where fewer than 100,000,000 objects were. stopped doesn't catch the timeout.
abbrev pub counted : BodyValue → (BodyValue → StepOutcome) → StepOutcome
counted s go =
    if nat_lt s.count 100000000 then go (record s { count = s.count + 1 }) else Ends (Ps Timeout (codes "run"))
