-- What a program means with a setup: what the interpreter says. Own rule: its end as a status.
use Rattle.std.specs.Prelude.{ℕ, List, Option, Some, None}
use Rattle.press_fault.specs.declared.outcome.Status.{Status}
use Rattle.press_fault.specs.declared.outcome.Status.TheVariants.{Done, Ps, NoMemory}
use Rattle.ps_machine.specs.Setup.{SetupValue}
use Rattle.ps_machine.specs.declared.turn.End.{End}
use Rattle.ps_machine.specs.declared.turn.End.TheVariants.{Done as ItsEnd, Ps as ItsError}
use Rattle.ps_machine.specs.Meaning.{Meaning as Told, meaning_of as told_of}
use Rattle.press_job.specs.Meaning.{JobMeaning, ends}

-- a program's end as a status: done, or an error by its name and command
abbrev pub status_of : End → Status
status_of ItsEnd = Done
status_of (ItsError name command) = Ps name command

-- what the interpreter says of a program, with its end as a status
abbrev pub job_of_program : Told → JobMeaning
job_of_program told = record { pages = told.pages; end = status_of told.end }

-- what a program means that starts on pages of this size and resolution
abbrev pub meaning_of : SetupValue → List ℕ → JobMeaning
meaning_of page text = job_of_program (told_of text page)

-- what a machine still means; after out of memory it ends so
abbrev pub left_of : Option Told → JobMeaning
left_of (Some told) = job_of_program told
left_of None = ends NoMemory
