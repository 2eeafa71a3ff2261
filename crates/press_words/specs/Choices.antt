-- The options of the command line: their names, what values they take, and what they have chosen. Own rule: each option
-- is given once at most.
use Rattle.std.specs.Prelude.{ℕ, Bool, true, false, List, Option, Some, None, if◌then◌else◌, codes}
use Rattle.std.specs.Option.{option_map}
use Rattle.std.specs.Str.{bytes_eq}
use Rattle.press_words.specs.declared.choosing.Choice.{Choice}
use Rattle.press_words.specs.declared.choosing.Choice.TheVariants.{Size, Res, Band, Workers, Cache, Intent, Output}
use Rattle.press_words.specs.declared.choosing.Choice.TheVariants.{Gray, Rgb, Cmyk, Report, Sample, Rehearse, Depth}
use Rattle.press_words.specs.Values.{number_from, sides_of, depth_of, file_of}

-- the option of a name
abbrev pub option_of : List ℕ → Option Choice
option_of name =
    if bytes_eq name (codes "--size") then Some Size
    else if bytes_eq name (codes "--res") then Some Res
    else if bytes_eq name (codes "--band") then Some Band
    else if bytes_eq name (codes "--workers") then Some Workers
    else if bytes_eq name (codes "--cache") then Some Cache
    else if bytes_eq name (codes "--intent") then Some Intent
    else if bytes_eq name (codes "--output") then Some Output
    else if bytes_eq name (codes "--gray") then Some Gray
    else if bytes_eq name (codes "--rgb") then Some Rgb
    else if bytes_eq name (codes "--cmyk") then Some Cmyk
    else if bytes_eq name (codes "--report") then Some Report
    else if bytes_eq name (codes "--sample") then Some Sample
    else if bytes_eq name (codes "--rehearse") then Some Rehearse
    else if bytes_eq name (codes "--depth") then Some Depth
    else None

-- what the options have chosen so far: the sides of the page in points, the dots of an inch, the rows of a band, the
-- workers, the links that are kept, the rendering intent, the files of the output profile and of the default profiles,
-- whether a report is wanted, the number of a sample page and of a rehearsal, and the bits of a sample
pub record ChoicesValue : Type 0 where
  pub size : Option (ℕ × ℕ)
  pub res : Option ℕ
  pub band : Option ℕ
  pub workers : Option ℕ
  pub cache : Option ℕ
  pub intent : Option ℕ
  pub output : Option (List ℕ)
  pub gray : Option (List ℕ)
  pub rgb : Option (List ℕ)
  pub cmyk : Option (List ℕ)
  pub report : Bool
  pub sample : Option ℕ
  pub rehearse : Option ℕ
  pub depth : Option ℕ

-- before the first word nothing is chosen
abbrev pub no_choices : ChoicesValue
no_choices = record {
  size = None;
  res = None;
  band = None;
  workers = None;
  cache = None;
  intent = None;
  output = None;
  gray = None;
  rgb = None;
  cmyk = None;
  report = false;
  sample = None;
  rehearse = None;
  depth = None;
}

-- an option's value, which counts only where it had none before
abbrev pub once : {A : Type 0} → Option A → Option A → Option A
once None value = value
once (Some before) value = None

-- what is chosen once an option has its value: none where it was given before, or the value is none of its. A report
-- takes no value
abbrev pub chosen_with : Choice → List ℕ → ChoicesValue → Option ChoicesValue
chosen_with Size value c = option_map (λ sides. record c { size = Some sides }) (once c.size (sides_of value))
chosen_with Res value c = option_map (λ n. record c { res = Some n }) (once c.res (number_from 1 2400 value))
chosen_with Band value c = option_map (λ n. record c { band = Some n }) (once c.band (number_from 1 16384 value))
chosen_with Workers value c = option_map (λ n. record c { workers = Some n }) (once c.workers (number_from 0 16 value))
chosen_with Cache value c = option_map (λ n. record c { cache = Some n }) (once c.cache (number_from 1 64 value))
chosen_with Intent value c = option_map (λ n. record c { intent = Some n }) (once c.intent (number_from 0 2 value))
chosen_with Output value c = option_map (λ file. record c { output = Some file }) (once c.output (file_of value))
chosen_with Gray value c = option_map (λ file. record c { gray = Some file }) (once c.gray (file_of value))
chosen_with Rgb value c = option_map (λ file. record c { rgb = Some file }) (once c.rgb (file_of value))
chosen_with Cmyk value c = option_map (λ file. record c { cmyk = Some file }) (once c.cmyk (file_of value))
chosen_with Report value c = None
chosen_with Sample value c =
    option_map (λ n. record c { sample = Some n }) (once c.sample (number_from 0 4294967295 value))
chosen_with Rehearse value c =
    option_map (λ n. record c { rehearse = Some n }) (once c.rehearse (number_from 0 4294967295 value))
chosen_with Depth value c = option_map (λ n. record c { depth = Some n }) (once c.depth (depth_of value))

-- what is chosen once a report is asked for: none where it was before
abbrev pub reported : ChoicesValue → Option ChoicesValue
reported c = if c.report then None else Some (record c { report = true })
