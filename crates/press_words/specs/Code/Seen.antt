-- How the code keeps what the words ask for. Own rule: words of the code alone.
use Rattle.std.specs.Prelude.{◌≤◌, ◌*◌, ℕ, List, Option, IfSome}
use Rattle.std.specs.Option.{option_map}
use Rattle.std.specs.Borrow.{Bor}
use Rattle.press_words.specs.declared.choosing.Choices.{Choices as Chosen}
use Rattle.press_words.specs.declared.reading.Form.{Form as Read}
use Rattle.press_words.specs.declared.reading.Form.TheVariants as At
use Rattle.press_words.specs.declared.options.NamedFile.{NamedFile as File}
use Rattle.press_words.specs.Choices.{ChoicesValue}
use Rattle.press_words.specs.Values.{NamedFileValue}
use Rattle.press_words.specs.Grammar.{FormValue, Bare, Ender, Named, Given}

-- a text that is referred to, where there is one
abbrev pub text_in : Option (Bor (List ℕ)) → Option (List ℕ)
text_in = option_map (λ text. text.now)

-- both parts of a text that was cut
abbrev pub parts_in : Option (Bor (List ℕ) × Bor (List ℕ)) → Option (List ℕ × List ℕ)
parts_in = option_map (λ parts. (parts.0.now, parts.1.now))

-- what was chosen, with the texts that it refers to
abbrev pub chosen_so_far : Chosen → ChoicesValue
chosen_so_far c = record {
  size = c.size;
  res = c.res;
  band = c.band;
  workers = c.workers;
  cache = c.cache;
  intent = c.intent;
  output = text_in c.output;
  gray = text_in c.gray;
  rgb = text_in c.rgb;
  cmyk = text_in c.cmyk;
  report = c.report;
  sample = c.sample;
  rehearse = c.rehearse;
  depth = c.depth;
}

-- what was chosen is within the bounds of its option
abbrev pub AreInRange : Chosen → Type 0
AreInRange c = IfSome c.size (λ sides. (sides.0 ≤ 14400) × (sides.1 ≤ 14400)) ×
    IfSome c.res (λ res. (1 ≤ res) × (res ≤ 2400)) × IfSome c.band (λ band. 1 ≤ band)

-- the form of a word, with the texts that it refers to
abbrev pub seen_form : Read → FormValue
seen_form At.Bare = Bare
seen_form At.Ender = Ender
seen_form (At.Named name) = Named name.now
seen_form (At.Given name value) = Given name.now value.now

-- a named profile, with the texts that it refers to
abbrev pub seen_file : File → NamedFileValue
seen_file f = record { name = f.name.now; file = f.file.now }

-- a page within the limits: at most 16,384 dots a side and 67,108,864 in all, and 1 to 2,400 dots an inch
pub record IsPageSize (width height res : ℕ) : Type 0 where
  pub across : width ≤ 16384
  pub down : height ≤ 16384
  pub dots : width * height ≤ 67108864
  pub some : 1 ≤ res
  pub most : res ≤ 2400
