-- What the words of the command line ask for. Own rules: without `--sample` the first positional word is the program;
-- the others are NAME=FILE, at most 16 and with distinct names; a side of the page has at least one dot, at most
-- 16,384, and the page at most 67,108,864.
use Rattle.std.specs.Prelude.{ℕ, ◌+◌, ◌*◌, ◌/◌, Bool, true, false, not, ◌&&◌, max, List, [], ◌∷◌, ◌++◌, length}
use Rattle.std.specs.Prelude.{Option, Some, None, is_some, nat_le, nat_lt, if◌then◌else◌}
use Rattle.std.specs.Option.{option_map, option_and_then}
use Rattle.std.specs.List.{fold, list_any}
use Rattle.std.specs.Str.{bytes_eq}
use Rattle.press_words.specs.declared.reading.Next.{Next}
use Rattle.press_words.specs.declared.reading.Next.TheVariants.{Any, ValueOf, Positional}
use Rattle.press_words.specs.Values.{NamedFileValue, named_file_of, file_of}
use Rattle.press_words.specs.Choices.{ChoicesValue}
use Rattle.press_words.specs.Grammar.{ReadingValue, read}

-- a page in dots, with the dots of an inch
pub record PageSizeValue : Type 0 where
  pub width : ℕ
  pub height : ℕ
  pub res : ℕ

-- what the words ask for: the sides of the page in points and in dots, the rows of a band, the workers, the links
-- that are kept, the rendering intent, the files of profiles, the program, whether a report is wanted, the number of
-- a sample page and of a rehearsal, the named profiles in the order of the words, and the bits of a sample
pub record OptionsValue : Type 0 where
  pub size : ℕ × ℕ
  pub page : PageSizeValue
  pub band : ℕ
  pub workers : ℕ
  pub cache : ℕ
  pub intent : ℕ
  pub output : Option (List ℕ)
  pub gray : Option (List ℕ)
  pub rgb : Option (List ℕ)
  pub cmyk : Option (List ℕ)
  pub program : Option (List ℕ)
  pub report : Bool
  pub sample : Option ℕ
  pub rehearse : Option ℕ
  pub named : List NamedFileValue
  pub depth : ℕ

-- so many points in dots: rounded to the nearest, a half up, and at least one
abbrev pub dots_of : ℕ → ℕ → ℕ
dots_of points res = max 1 ((2 * (points * res) + 72) / 144)

-- a page within the limits
abbrev pub page_within : ℕ → ℕ → ℕ → Option PageSizeValue
page_within width height res =
    if nat_le width 16384 && nat_le height 16384 && nat_le (width * height) 67108864
    then Some (record { width = width; height = height; res = res }) else None

-- the page of these sides in points and dots of an inch
abbrev pub page_of : ℕ × ℕ → ℕ → Option PageSizeValue
page_of sides res = page_within (dots_of sides.0 res) (dots_of sides.1 res) res

-- one more named profile, where there is room for it and its name is new
abbrev pub with_named : List NamedFileValue → NamedFileValue → Option (List NamedFileValue)
with_named named more =
    if nat_lt (length named) 16 && not (list_any (λ other. bytes_eq other.name more.name) named)
    then Some (named ++ more ∷ []) else None

-- one more word that names a profile, behind those that may have been refused
abbrev pub name_next : Option (List NamedFileValue) → List ℕ → Option (List NamedFileValue)
name_next named word = option_and_then (λ so_far. option_and_then (with_named so_far) (named_file_of word)) named

-- the named profiles of these words
unfoldable pub named_in : List (List ℕ) → Option (List NamedFileValue)
named_in words = fold name_next (Some []) words

-- the program and the words behind it: with a sample page there is no program; else it is the first word, which isn't
-- empty
abbrev pub program_in : Bool → List (List ℕ) → Option (Option (List ℕ) × List (List ℕ))
program_in true words = Some (None, words)
program_in false [] = None
program_in false (word ∷ words) = option_map (λ program. (Some program, words)) (file_of word)

-- what was chosen, or else the default
abbrev pub or_else : {A : Type 0} → A → Option A → A
or_else default None = default
or_else default (Some chosen) = chosen

-- the options with this page, program and named profiles: without `--size` the page is 612 by 792 points, without
-- `--res` a point is a dot, a band has 64 rows, there are 4 workers, 8 links are kept, the intent is 0, and the depth 8
abbrev pub options_with : ChoicesValue → PageSizeValue → Option (List ℕ) → List NamedFileValue → OptionsValue
options_with c page program named = record {
  size = or_else (612, 792) c.size;
  page = page;
  band = or_else 64 c.band;
  workers = or_else 4 c.workers;
  cache = or_else 8 c.cache;
  intent = or_else 0 c.intent;
  output = c.output;
  gray = c.gray;
  rgb = c.rgb;
  cmyk = c.cmyk;
  program = program;
  report = c.report;
  sample = c.sample;
  rehearse = c.rehearse;
  named = named;
  depth = or_else 8 c.depth;
}

-- the page that was chosen
abbrev pub page_chosen : ChoicesValue → Option PageSizeValue
page_chosen c = page_of (or_else (612, 792) c.size) (or_else 72 c.res)

-- whether no option waits for its value
abbrev pub is_complete : Next → Bool
is_complete Any = true
is_complete (ValueOf choice) = false
is_complete Positional = true

-- the options, once the program and the words behind it are known
abbrev pub with_program : ChoicesValue → Option (Option (List ℕ) × List (List ℕ)) → Option OptionsValue
with_program c None = None
with_program c (Some parts) = option_and_then (λ page. option_map (options_with c page parts.0) (named_in parts.1))
    (page_chosen c)

-- what words that were read ask for
abbrev pub settled : ReadingValue → Option OptionsValue
settled r =
    if is_complete r.next then with_program r.chosen (program_in (is_some r.chosen.sample) r.positionals) else None

-- what the words ask for: none where they aren't in the grammar
unfoldable pub options_of : List (List ℕ) → Option OptionsValue
options_of words = option_and_then settled (read words)
