-- What a run does with what the words ask for. Own rules: what isn't built yet is refused as words outside the grammar,
-- status 2: profiles, by an option or by a name, and the rehearsal. The rows of a band, the workers, the links that are
-- kept and the rendering intent change no byte of a page without profiles, so any of them are taken.
use Rattle.std.specs.Prelude.{ℕ, ◌==◌, Bool, true, false, ◌&&◌, List, length, Option, Some, None, is_none}
use Rattle.std.specs.Prelude.{if◌then◌else◌}
use Rattle.std.specs.Option.{option_map, option_and_then}
use Rattle.page_model.specs.declared.page.Depth.{Depth}
use Rattle.page_model.specs.declared.page.Depth.TheVariants.{Eight, Sixteen}
use Rattle.ps_machine.specs.Setup.{SetupValue}
use Rattle.press_words.specs.Options.{OptionsValue, PageSizeValue, options_of}

-- where the text of the program comes from: the file of a name, or the sample page of a number
pub data SourceValue : Type 0 where
  File : List ℕ → SourceValue
  Sample : ℕ → SourceValue

-- whether it is a sample page
abbrev pub is_sample : SourceValue → Bool
is_sample (File name) = false
is_sample (Sample n) = true

-- what a run is asked for: the page in dots with its resolution, the depth of its samples, where the program comes
-- from, and whether a report is wanted
pub record AskedValue : Type 0 where
  pub page : SetupValue
  pub depth : Depth
  pub source : SourceValue
  pub report : Bool

-- whether the options ask for no profile, by an option or by a name, and for no rehearsal
abbrev pub is_built : OptionsValue → Bool
is_built o = is_none o.output && (is_none o.gray && (is_none o.rgb && (is_none o.cmyk
    && (is_none o.rehearse && length o.named == 0))))

-- where the text of the program comes from, by the sample page and the file that the words name: one of them is there
abbrev pub source_of : Option ℕ → Option (List ℕ) → Option SourceValue
source_of (Some n) program = Some (Sample n)
source_of None (Some name) = Some (File name)
source_of None None = None

-- the page that a program begins on
abbrev pub setup_of : PageSizeValue → SetupValue
setup_of page = record { width = page.width; height = page.height; res = page.res }

-- the depth of samples of so many bits, 8 or 16
abbrev pub depth_of : ℕ → Depth
depth_of bits = if bits == 16 then Sixteen else Eight

-- what options with this source ask for
abbrev pub asked_from : OptionsValue → SourceValue → AskedValue
asked_from o source = record {
  page = setup_of o.page;
  depth = depth_of o.depth;
  source = source;
  report = o.report;
}

-- what options ask for, none where it isn't built
abbrev pub asked_by : OptionsValue → Option AskedValue
asked_by o = if is_built o then option_map (asked_from o) (source_of o.sample o.program) else None

-- what the words ask for: none where they aren't in the grammar, or ask for what isn't built
abbrev pub asked_of : List (List ℕ) → Option AskedValue
asked_of words = option_and_then asked_by (options_of words)

-- the depth of the samples of a run's pages; where the words are refused there are none
abbrev pub depth_in : Option AskedValue → Depth
depth_in None = Eight
depth_in (Some asked) = asked.depth
