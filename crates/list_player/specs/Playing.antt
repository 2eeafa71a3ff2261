-- Playing the list of a band: the marks that it says are drawn in order, each with the colours of its source. Own rule:
-- a loan of colours serves the marks of one source, up to the first mark that needs another.
use Rattle.std.specs.Prelude.{◌≡◌, ℕ, List, []}
use Rattle.std.specs.List.{AllByRecursion}
use Rattle.press_fault.specs.Plane.{CodeValue}
use Rattle.page_model.specs.Image.{ImageValue}
use Rattle.page_model.specs.Marking.{MarkValue}
use Rattle.page_model.specs.Pages.{band_text, rows_of_band}
use Rattle.page_model.specs.declared.page.Depth.{Depth}
use Rattle.page_model.specs.declared.page.Depth.TheVariants.{Eight, Sixteen}
use Rattle.list_codec.specs.Command.{CmdValue, IsCmd}
use Rattle.band_writer.specs.Listing.{spelled}
use Rattle.band_writer.specs.Said.{list_marks}
use Rattle.band_writer.specs.Parts.{PagePartsValue}

-- the colours of linked codes at a depth, by those of 8 and those of 16 bits
abbrev pub tint_at : Depth → (ℕ → CodeValue → List ℕ) → (ℕ → CodeValue → List ℕ) → ℕ → CodeValue → List ℕ
tint_at Eight colour wide = colour
tint_at Sixteen colour wide = wide

-- the dots of a band: its number, how many rows it has, and the bytes of its dots
pub record BandDotsValue : Type 0 where
  pub band : ℕ
  pub rows : ℕ
  pub dots : List ℕ

-- the dots of a band with these marks; tint gives the colour of a linked code by its source, at the depth
unfoldable pub dots_of : (ℕ → CodeValue → List ℕ) → PagePartsValue → ℕ → List MarkValue → BandDotsValue
dots_of tint parts band marks = record {
  band = band;
  rows = rows_of_band parts.height parts.band band;
  dots = band_text parts.depth tint parts.width parts.height parts.band marks band;
}

-- the marks that the bytes of a list say, with the page's table of images
pub record SayMarks (images : List ImageValue) (bytes : List ℕ) (marks : List MarkValue) : Type 0 where
  pub cmds : List CmdValue
  pub commands : AllByRecursion IsCmd cmds
  pub are : bytes ≡ spelled cmds
  pub say : marks ≡ list_marks images cmds
