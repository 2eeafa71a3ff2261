-- What operators keep that wait for a procedure (PostScript Language Reference, third edition, 4.10.5 Image
-- Dictionaries: DataSource). Own rule: it is kept beside the levels, a frame for each guarded one, so an error, `stop`
-- and the end of a procedure take both away.
use Rattle.std.specs.Prelude.{◌≡◌, length}
use Rattle.ps_flow.specs.Levels.{guarded_in}
use Rattle.ps_machine.specs.State.{BodyValue}
use Rattle.ps_machine.specs.Errors.{StepOutcome, Goes, Shows, Ends}

-- as many operators wait as guarded procedures are among the levels
abbrev pub IsFramed : BodyValue → Type 0
IsFramed s = length s.frames ≡ guarded_in s.levels

-- the state after a step has as many too, where the program goes on
abbrev pub KeepsFrames : StepOutcome → Type 0
KeepsFrames (Goes s) = IsFramed s
KeepsFrames (Shows page s) = IsFramed s
KeepsFrames (Ends end) = Unit {0}
