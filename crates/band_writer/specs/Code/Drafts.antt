-- The list of a band while it is written. Own rule: words of the code alone.
use Rattle.std.specs.Prelude.{◌≡◌, ℕ, ◌<◌, ◌-◌, ◌==◌, Bool, true, false, List, [], ◌∷◌, ◌++◌, length, slice_index_or}
use Rattle.std.specs.Prelude.{Option}
use Rattle.std.specs.Prelude.{Some, None, if◌then◌else◌}
use Rattle.std.specs.List.{filter, slice_get, AllByRecursion}
use Rattle.page_model.specs.Marking.{MarkValue}
use Rattle.list_codec.specs.Command.{CmdValue, IsCmd}
use Rattle.band_writer.specs.Bands.{PlacedMark, held_marks, needs_of, mark_source}
use Rattle.band_writer.specs.Listing.{Told, opening, change_cmds, told_after, list_cmds, spelled}
use Rattle.band_writer.specs.Parts.{BandListValue}

-- a list and its needs so far, and what the list said
pub record DraftValue : Type 0 where
  pub list : List ℕ
  pub needs : List ℕ
  pub told : Told

-- a draft without commands
abbrev pub empty_draft : DraftValue
empty_draft = record { list = []; needs = []; told = opening }

-- a draft whose list says some more commands
abbrev pub with_said : DraftValue → List CmdValue → Told → DraftValue
with_said draft cmds told = record { list = draft.list ++ spelled cmds; needs = draft.needs; told = told }

-- whether a number is there and this one
abbrev pub is_number : Option ℕ → ℕ → Bool
is_number None source = false
is_number (Some n) source = n == source

-- whether a source is the last of some
abbrev pub is_last : List ℕ → ℕ → Bool
is_last needs source = is_number (slice_get needs (length needs - 1)) source

-- the needs after one more source, if there is one
abbrev pub needs_after : List ℕ → Option ℕ → List ℕ
needs_after needs None = needs
needs_after needs (Some source) = if is_last needs source then needs else needs ++ source ∷ []

-- a draft after one more mark, whose painting is spelled so
unfoldable pub draft_after : MarkValue → List ℕ → DraftValue → DraftValue
draft_after mark painted draft = record {
  list = draft.list ++ (spelled (change_cmds draft.told mark) ++ painted);
  needs = needs_after draft.needs (mark_source mark);
  told = told_after draft.told mark;
}

-- what is told after marks
unfoldable pub told_by : Told → List PlacedMark → Told
told_by told [] = told
told_by told (placed ∷ rest) = told_by (told_after told placed.mark) rest

-- the draft of a band that holds the marks that pass a test, after some of the page's marks
pub record IsDraft (holds : MarkValue → Bool) (marks : List MarkValue) (draft : DraftValue) : Type 0 where
  pub list : draft.list ≡ spelled (list_cmds opening (held_marks holds marks))
  pub commands : AllByRecursion IsCmd (list_cmds opening (held_marks holds marks))
  pub needs : draft.needs ≡ needs_of (filter holds marks)
  pub told : draft.told ≡ told_by opening (held_marks holds marks)

-- a mark was added to the drafts of the bands that pass a test, and the others stay
pub record IsAdded (holds : ℕ → Bool) (mark : MarkValue) (painted : List ℕ) (old new : List DraftValue) : Type 0 where
  pub count : length new ≡ length old
  pub held : (band : ℕ) (d : DraftValue) → band < length old → holds band ≡ true
      → slice_index_or new band d ≡ draft_after mark painted (slice_index_or old band d)
  pub commands : (band : ℕ) (d : DraftValue) → band < length old → holds band ≡ true
      → AllByRecursion IsCmd (change_cmds (slice_index_or old band d).told mark)
  pub left : (band : ℕ) (d : DraftValue) → holds band ≡ false → slice_index_or new band d ≡ slice_index_or old band d

-- drafts became lists with the numbers of their bands
pub record AreNumbered (drafts : List DraftValue) (lists : List BandListValue) : Type 0 where
  pub count : length lists ≡ length drafts
  pub each : (band : ℕ) (draft : DraftValue) (list : BandListValue) → band < length drafts
      → slice_index_or lists band list ≡ record { band = band; bytes = (slice_index_or drafts band draft).list }
