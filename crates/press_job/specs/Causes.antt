-- What a status tells of the inputs, whatever the shelf tells. Own rule: the statuses are the program's own.
use Rattle.std.specs.Prelude.{◌≡◌, ◌≤◌, ◌+◌, ℕ}
use Rattle.press_ports.specs.Causes.{Told, TellsItLacks}
use Rattle.press_job.specs.Asked.{SourceValue, File, Sample}
use Rattle.press_fault.specs.declared.outcome.Status.{Status}
use Rattle.press_fault.specs.declared.outcome.Status.TheVariants.{Usage, ReadFault, TooLong}

-- the words or an input were refused
abbrev pub IsRefusal : Status → Type 0
IsRefusal Usage = Unit {0}
IsRefusal (ReadFault which) = Unit {0}
IsRefusal (TooLong which) = Unit {0}
IsRefusal status = ⊥

-- an input couldn't be read, or was too long
abbrev pub IsInputRefusal : Status → Type 0
IsInputRefusal (ReadFault which) = Unit {0}
IsInputRefusal (TooLong which) = Unit {0}
IsInputRefusal status = ⊥

-- How often the shelf was asked: never where the words are refused, else at most once for each input; and where an
-- input is refused, exactly as often as its place among the inputs says. The program is the only input.
pub record AsksInOrder (status : Status) (before now : ℕ) : Type 0 where
  pub none : status ≡ Usage → now ≡ before
  pub most : now ≤ before + 1
  pub place : IsInputRefusal status → now ≡ before + 1

-- it is told that nothing is held under the program's name; a sample page has none
abbrev pub TellsItLacksProgram : Told → SourceValue → Type 0
TellsItLacksProgram held (File name) = TellsItLacks held name
TellsItLacksProgram held (Sample n) = ⊥

-- the text of the program is that of a sample page
abbrev pub IsOfSample : SourceValue → Type 0
IsOfSample (File name) = ⊥
IsOfSample (Sample n) = Unit {0}

-- for a sample page the shelf isn't asked, and no input is refused
pub record AsksNothing (status : Status) (before now : ℕ) : Type 0 where
  pub none : now ≡ before
  pub no_refusal : ¬ (IsInputRefusal status)
