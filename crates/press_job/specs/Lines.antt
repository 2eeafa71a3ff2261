-- The lines on standard error: that of the status, and behind it the report and the line of a sample page, where they
-- are asked for. Own rule: the texts are the program's own; out of memory the line of the status stands alone.
use Rattle.std.specs.Prelude.{◌≡◌, ℕ, List, [], ◌++◌, Bool, true, false, ◌&&◌, Option, Some, None, map, length, codes}
use Rattle.std.specs.Prelude.{nat_le, unwrap_or, slice_get, if◌then◌else◌}
use Rattle.std.specs.Fmt.{decimal}
use Rattle.md5.specs.Md5.{md5}
use Rattle.press_fault.specs.Names.{text_of}
use Rattle.press_fault.specs.declared.outcome.Status.{Status}
use Rattle.press_fault.specs.declared.outcome.Status.TheVariants.{Done, Ps, Usage, ReadFault, WriteFault, Profile}
use Rattle.press_fault.specs.declared.outcome.Status.TheVariants.{NoMemory, TooLong}
use Rattle.press_fault.specs.declared.outcome.Which.{Which}
use Rattle.press_fault.specs.declared.outcome.Which.TheVariants.{Output, Gray, Rgb, Cmyk, Named, Program, Inline}
use Rattle.press_ports.specs.Causes.{counted, with_piece, WritesFront}
use Rattle.press_words.specs.Lines.{CountsValue, report_line_of, sample_line_of}
use Rattle.press_job.specs.Asked.{AskedValue, SourceValue, File, Sample}

-- an input as it is printed; a profile of the words by its name there
abbrev pub which_text : List (List ℕ) → Which → List ℕ
which_text names Output = codes "output"
which_text names Gray = codes "gray"
which_text names Rgb = codes "rgb"
which_text names Cmyk = codes "cmyk"
which_text names (Named k) = unwrap_or (slice_get names k) []
which_text names Program = codes "program"
which_text names Inline = codes "inline"

-- a byte that doesn't print prints as a question mark
abbrev pub printable : ℕ → ℕ
printable c = if nat_le 33 c && nat_le c 126 then c else 63

-- the line of a status on standard error, none where it is done: `render: `, then for an error its name, ` in ` and its
-- command, else a text of the status with the input or the fault's number
abbrev pub line_of : List (List ℕ) → Status → List ℕ
line_of names Done = []
line_of names (Ps name command) = codes "render: "
    ++ (text_of name ++ (codes " in " ++ (map printable command ++ codes "\n")))
line_of names Usage = codes "render: usage: render [options] PROGRAM [NAME=FILE ...]\n"
line_of names (ReadFault which) = codes "render: cannot read " ++ (which_text names which ++ codes "\n")
line_of names WriteFault = codes "render: cannot write output\n"
line_of names (Profile which code) = codes "render: profile "
    ++ (which_text names which ++ (codes ": fault " ++ (decimal code ++ codes "\n")))
line_of names NoMemory = codes "render: out of memory\n"
line_of names (TooLong which) = codes "render: " ++ (which_text names which ++ codes " is too long\n")

-- what a run counts: the pages written whole. No profile is used yet, so there are no links, and the rest is 0
abbrev pub counts_of : ℕ → CountsValue
counts_of shown = record {
  pages = shown;
  leases = 0;
  keys = 0;
  built = 0;
  evicted = 0;
  resident = 0;
  stale = 0;
}

-- the report line where it is asked for
abbrev pub report_part : Bool → ℕ → List ℕ
report_part true shown = report_line_of (counts_of shown)
report_part false shown = []

-- the line of a sample page, by the bytes that the sink took: how many they are, and their digest
abbrev pub sample_part : SourceValue → List ℕ → List ℕ
sample_part (File name) taken = []
sample_part (Sample n) taken = sample_line_of n (counted 0 (length taken)) (md5 taken)

-- whether the line of a status stands alone, whatever is asked for
abbrev pub stands_alone : Status → Bool
stands_alone NoMemory = true
stands_alone status = false

-- the lines behind that of the status
abbrev pub asked_lines : AskedValue → ℕ → List ℕ → List ℕ
asked_lines asked shown taken = report_part asked.report shown ++ sample_part asked.source taken

-- the lines of a run that was asked for this, ended so, wrote so many pages, and whose sink took these bytes
abbrev pub lines_of : Option AskedValue → Status → ℕ → List ℕ → List ℕ
lines_of None status shown taken = line_of [] status
lines_of (Some asked) status shown taken =
    line_of [] status ++ (if stands_alone status then [] else asked_lines asked shown taken)

-- standard error gets a front of the lines of a run, for the very bytes that the sink took, and all of them where
-- nothing failed there
pub record TellsLines (asked : Option AskedValue) (status : Status) (shown : ℕ)
    (out_before out_now err_before err_now : Option (List ℕ)) (NothingFailed : Type 0) : Type 0 where
  pub taken : List ℕ
  pub took : out_now ≡ with_piece out_before taken
  pub front : WritesFront err_before err_now (lines_of asked status shown taken)
  pub whole : NothingFailed → err_now ≡ with_piece err_before (lines_of asked status shown taken)
