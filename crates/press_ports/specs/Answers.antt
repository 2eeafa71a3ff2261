-- Whose answer a failed write is. Own rule: an interrupted write is tried again, and a writer that takes no byte has
-- failed.
use Rattle.std.specs.Prelude.{◌≡◌, ◌≢◌, ◌≤◌, ◌-◌, ◌^◌, ◌⊎◌, ℕ}
use Rattle.std.specs.declared.io.ErrorKind.{ErrorKind}
use Rattle.std.specs.declared.io.ErrorKind.TheVariants.{Interrupted}
use Rattle.press_ports.specs.declared.answers.Last.{Last}
use Rattle.press_ports.specs.declared.answers.Last.TheVariants.{Nothing, Took, Failed}

-- a write was interrupted over and over, until the count stood at its last value
abbrev pub IsWornOut : ℕ → Type 0
IsWornOut interruptions = 2 ^ 64 - 1 ≤ interruptions

-- an answer is a failure that isn't tried again
abbrev pub IsFailure : Last → Type 0
IsFailure Nothing = ⊥
IsFailure (Took n) = n ≡ 0
IsFailure (Failed kind) = kind ≢ Interrupted
