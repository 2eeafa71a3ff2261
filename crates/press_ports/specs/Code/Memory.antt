-- The shelf and the sink in memory. Own rule: they fail as they are told to, by the number of the call, from 0.
use Rattle.std.specs.Prelude.{ℕ, Bool, ◌+◌, ◌-◌, ◌==◌, min, List, [], ◌∷◌, ◌++◌, length, take, Option, Some, None}
use Rattle.std.specs.Prelude.{Result, Ok, Err, nat_le, if◌then◌else◌, Vec, String}
use Rattle.std.specs.List.{list_any}
use Rattle.std.specs.Str.{bytes_eq}
use Rattle.std.specs.String.{string_bytes}
use Rattle.std.specs.declared.alloc.Global.{Global}
use Rattle.press_ports.specs.Causes.{counted}
use Rattle.press_ports.specs.declared.fetching.Fetch.{Fetch}
use Rattle.press_ports.specs.declared.fetching.Fetch.TheVariants.{Failed, TooLong}

-- whether the call of this number is to fail
abbrev pub is_failing : List ℕ → ℕ → Bool
is_failing failing number = list_any (λ k. k == number) failing

-- what the first file with this name holds
abbrev pub file_of : List (String Global × Vec ℕ Global) → List ℕ → Option (List ℕ)
file_of [] name = None
file_of (file ∷ files) name = if bytes_eq (string_bytes file.0) name then Some file.1.items else file_of files name

-- a shelf: its files, the numbers of the fetches that fail, how many fetches there were, and its counts of faults, of
-- bytes taken
-- and of inputs found too long
pub record MemShelfValue : Type 0 where
  pub files : List (String Global × Vec ℕ Global)
  pub failing : List ℕ
  pub asked : ℕ
  pub faults : ℕ
  pub taken : ℕ
  pub longs : ℕ

-- what is held, within a limit: a fault where nothing is, too long over the limit, else the bytes
abbrev pub within : ℕ → Option (List ℕ) → Result (List ℕ) Fetch
within limit None = Err Failed
within limit (Some bytes) = if nat_le (length bytes) limit then Ok bytes else Err TooLong

-- what a fetch of at most so many bytes answers, where memory is there
abbrev pub answer_of : MemShelfValue → List ℕ → ℕ → Result (List ℕ) Fetch
answer_of s name limit = if is_failing s.failing s.asked then Err Failed else within limit (file_of s.files name)

-- the shelf with one fetch more
abbrev pub once_more : MemShelfValue → MemShelfValue
once_more s = record s { asked = counted s.asked 1 }

-- the shelf after it looked: so many bytes were taken, or one more input was too long, or nothing is held
abbrev pub after_looking : MemShelfValue → ℕ → Option (List ℕ) → MemShelfValue
after_looking s limit None = s
after_looking s limit (Some bytes) =
    if nat_le (length bytes) limit
    then record s { taken = counted s.taken (length bytes) }
    else record s { taken = counted s.taken (limit + 1); longs = counted s.longs 1 }

-- the shelf after a fetch of at most so many bytes, where memory is there: one that is to fail fails before the shelf
-- looks
abbrev pub after_fetch : MemShelfValue → List ℕ → ℕ → MemShelfValue
after_fetch s name limit =
    if is_failing s.failing s.asked
    then record (once_more s) { faults = counted s.faults 1 }
    else after_looking (once_more s) limit (file_of s.files name)

-- a sink: what it holds, for how many bytes it has room, how many it takes in one write, the numbers of the writes that
-- fail,
-- how many writes there were, and how many were faults
pub record MemSinkValue : Type 0 where
  pub bytes : List ℕ
  pub room : ℕ
  pub step : ℕ
  pub failing : List ℕ
  pub writes : ℕ
  pub faults : ℕ

-- how many bytes of a piece it takes: none where the write fails, else a step, the piece, or what room is left, the
-- least of these
abbrev pub taken_of : MemSinkValue → List ℕ → ℕ
taken_of b piece = if is_failing b.failing b.writes then 0
    else min (min (length piece) b.step) (b.room - length b.bytes)

-- the sink after it took so many bytes: these behind its own, a write more, and a fault more where it took none
abbrev pub after_taking : MemSinkValue → List ℕ → ℕ → MemSinkValue
after_taking b piece n =
    record {
      bytes = b.bytes ++ take n piece;
      room = b.room;
      step = b.step;
      failing = b.failing;
      writes = counted b.writes 1;
      faults = if n == 0 then counted b.faults 1 else b.faults;
    }
