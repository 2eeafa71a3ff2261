-- The words of the command line, one after the other. Own rule: an option is `--x v` or `--x=v`; in the first form v
-- is a dash alone or doesn't begin with a dash. `--` ends the options, and a word that is a dash alone is none. There
-- are at most 17 positional words.
use Rattle.std.specs.Prelude.{ℕ, ◌==◌, Bool, true, not, List, [], ◌∷◌, ◌++◌, length, Option, Some, None}
use Rattle.std.specs.Prelude.{nat_lt, if◌then◌else◌, codes}
use Rattle.std.specs.List.{fold}
use Rattle.std.specs.Str.{bytes_eq}
use Rattle.press_words.specs.declared.choosing.Choice.{Choice}
use Rattle.press_words.specs.declared.choosing.Choice.TheVariants.{Report}
use Rattle.press_words.specs.declared.reading.Next.{Next}
use Rattle.press_words.specs.declared.reading.Next.TheVariants.{Any, ValueOf, Positional}
use Rattle.press_words.specs.Text.{cut_at}
use Rattle.press_words.specs.Choices.{ChoicesValue, option_of, no_choices, chosen_with, reported}

-- whether a word is a dash alone or doesn't begin with a dash
abbrev pub is_bare : List ℕ → Bool
is_bare [] = true
is_bare (c ∷ []) = true
is_bare (c ∷ d ∷ rest) = not (c == 45)

-- what a word before `--` is by its form
pub data FormValue : Type 0 where
  Bare : FormValue
  Ender : FormValue
  Named : List ℕ → FormValue
  Given : List ℕ → List ℕ → FormValue

-- the form of a word that begins with a dash: an option's name alone, or with its value behind a `=`
abbrev pub option_form : List ℕ → Option (List ℕ × List ℕ) → FormValue
option_form word None = Named word
option_form word (Some parts) = Given parts.0 parts.1

-- the form of a word
abbrev pub form_of : List ℕ → FormValue
form_of word =
    if is_bare word then Bare
    else if bytes_eq word (codes "--") then Ender
    else option_form word (cut_at 61 word)

-- how far the words are read: what was chosen, the positional words so far, and what may come next: any word, the value
-- of an option, or positional words alone
pub record ReadingValue : Type 0 where
  pub chosen : ChoicesValue
  pub positionals : List (List ℕ)
  pub next : Next

-- one more positional word, where there is room for it: a program and 16 profiles
abbrev pub with_positional : List ℕ → ReadingValue → Option ReadingValue
with_positional word r =
    if nat_lt (length r.positionals) 17 then Some (record r { positionals = r.positionals ++ word ∷ [] }) else None

-- an option has its value, or the flag was set, and any word may come next
abbrev pub chose : ReadingValue → Option ChoicesValue → Option ReadingValue
chose r None = None
chose r (Some chosen) = Some (record r { chosen = chosen; next = Any })

-- an option without a value in its word: its value comes next, but a report takes none
abbrev pub named : Choice → ReadingValue → Option ReadingValue
named Report r = chose r (reported r.chosen)
named choice r = Some (record r { next = ValueOf choice })

-- an option's name and its value, where its word has one
abbrev pub with_option : Option Choice → Option (List ℕ) → ReadingValue → Option ReadingValue
with_option None value r = None
with_option (Some choice) None r = named choice r
with_option (Some choice) (Some value) r = chose r (chosen_with choice value r.chosen)

-- a word where any may come
abbrev pub with_form : FormValue → List ℕ → ReadingValue → Option ReadingValue
with_form Bare word r = with_positional word r
with_form Ender word r = Some (record r { next = Positional })
with_form (Named name) word r = with_option (option_of name) None r
with_form (Given name value) word r = with_option (option_of name) (Some value) r

-- a word as the value of an option
abbrev pub with_value : Choice → List ℕ → ReadingValue → Option ReadingValue
with_value choice word r = if is_bare word then chose r (chosen_with choice word r.chosen) else None

-- a word where this may come next
abbrev pub with_word : Next → List ℕ → ReadingValue → Option ReadingValue
with_word Any word r = with_form (form_of word) word r
with_word (ValueOf choice) word r = with_value choice word r
with_word Positional word r = with_positional word r

-- one more word; none where the words aren't in the grammar
abbrev pub read_word : ReadingValue → List ℕ → Option ReadingValue
read_word r word = with_word r.next word r

-- before the first word nothing is read
abbrev pub no_words : ReadingValue
no_words = record { chosen = no_choices; positionals = []; next = Any }

-- one more word behind those that may have been refused
abbrev pub read_next : Option ReadingValue → List ℕ → Option ReadingValue
read_next None word = None
read_next (Some r) word = read_word r word

-- what is read of all words
unfoldable pub read : List (List ℕ) → Option ReadingValue
read words = fold read_next (Some no_words) words
