-- What a page is split into. Own rule: what all bands share stands once, and each band has a list of commands and its
-- needs.
use Rattle.std.specs.Prelude.{ℕ, ◌≡◌, ◌<◌, List, map}
use Rattle.std.specs.List.{range_with_len, AllByRecursion}
use Rattle.page_model.specs.Image.{ImageValue}
use Rattle.page_model.specs.Marking.{MarkValue, IsSuited}
use Rattle.page_model.specs.Page.{PageValue}
use Rattle.page_model.specs.Pages.{band_count}
use Rattle.page_model.specs.declared.page.Depth.{Depth}
use Rattle.page_model.specs.declared.page.Depth.TheVariants.{Eight}
use Rattle.list_codec.specs.Command.{CmdValue, IsCmd}
use Rattle.list_codec.specs.Spelling.{cmd_bytes}
use Rattle.band_writer.specs.Bands.{meets, band_marks, held_marks, needs_of, images_of}
use Rattle.band_writer.specs.Listing.{opening, list_cmds, spelled}

-- what the bands of a page share: the page's size and the rows of a band, in dots, how many bits a colour has, and the
-- images
pub record PagePartsValue : Type 0 where
  pub width : ℕ
  pub height : ℕ
  pub band : ℕ
  pub depth : Depth
  pub images : List ImageValue

-- the list of a band: its number, counted from the top, and the bytes of its commands
pub record BandListValue : Type 0 where
  pub band : ℕ
  pub bytes : List ℕ

-- a page in bands: what they share, and the list and the needs of each
pub record BandListsValue : Type 0 where
  pub parts : PagePartsValue
  pub lists : List BandListValue
  pub needs : List (List ℕ)

-- bytes that are the spelling of a command
pub record IsSpelling (bytes : List ℕ) : Type 0 where
  pub cmd : CmdValue
  pub command : IsCmd cmd
  pub is : bytes ≡ cmd_bytes cmd

-- bytes that are the spellings of some commands, one after the other
pub record AreSpellings (bytes : List ℕ) : Type 0 where
  pub cmds : List CmdValue
  pub commands : AllByRecursion IsCmd cmds
  pub are : bytes ≡ spelled cmds

-- the commands of a band's list
abbrev pub band_cmds : PageValue → ℕ → ℕ → List CmdValue
band_cmds page band_rows band = list_cmds opening (held_marks (meets page.height band_rows band) page.marks)

-- the list of a band
abbrev pub band_list : PageValue → ℕ → ℕ → BandListValue
band_list page band_rows band = record { band = band; bytes = spelled (band_cmds page band_rows band) }

-- the needs of a band
abbrev pub band_needs : PageValue → ℕ → ℕ → List ℕ
band_needs page band_rows band = needs_of (band_marks page.height band_rows band page.marks)

-- a mark has no shapes beside an image, as the type of marks keeps it
abbrev pub IsSuitedMark : MarkValue → Type 0
IsSuitedMark mark = IsSuited mark.shapes mark.paint

-- a page that was split into bands of so many rows
pub record IsSplit (page : PageValue) (band_rows : ℕ) (split : BandListsValue) : Type 0 where
  pub parts : split.parts ≡ record {
    width = page.width;
    height = page.height;
    band = band_rows;
    depth = Eight;
    images = images_of page.marks;
  }
  pub lists : split.lists
      ≡ map (band_list page band_rows) (range_with_len 0 (band_count page.height band_rows))
  pub needs : split.needs
      ≡ map (band_needs page band_rows) (range_with_len 0 (band_count page.height band_rows))
  -- the bounds of the commands and the form of the marks, which their types keep
  pub commands : (band : ℕ) → band < band_count page.height band_rows → AllByRecursion IsCmd
      (band_cmds page band_rows band)
  pub suited : AllByRecursion IsSuitedMark page.marks
