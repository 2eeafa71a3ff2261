-- What the list of a band of a split page says.
use Rattle.std.proofs.Common.{◌≡◌, ℕ, List, []}
use Rattle.std.proofs.Common.{ap, ◌∙◌, map}
use Rattle.std.proofs.lemmas.List.Elements.{recursion_from_All}
use Rattle.press_fault.specs.Plane.{CodeValue}
use Rattle.page_model.specs.Marking.{MarkValue}
use Rattle.page_model.specs.Page.{PageValue, HaveNumberedClips, HasClipOfNumber}
use Rattle.page_model.specs.Pages.{band_text}
use Rattle.page_model.specs.declared.page.Depth.{Depth}
use Rattle.band_writer.specs.Bands.{meets, band_marks}
use Rattle.band_writer.specs.Listing.{opening}
use Rattle.band_writer.specs.Said.{marks_said, list_marks, without_number}
use Rattle.band_writer.specs.Parts.{PagePartsValue, BandListsValue, IsSplit, band_cmds}
use Rattle.band_writer.proofs.Said.{list_says}
use Rattle.band_writer.proofs.Painting.{band_same}

-- the list of a band says the marks that the band holds
pub band_says : (page : PageValue) (band_rows band : ℕ) (split : BandListsValue) → HaveNumberedClips page.marks
    → IsSplit page band_rows split → list_marks split.parts.images (band_cmds page band_rows band)
    ≡ map without_number (band_marks page.height band_rows band page.marks)
band_says page band_rows band split numbered is =
    ap (λ (p : PagePartsValue). list_marks p.images (band_cmds page band_rows band)) is.parts
    ∙ list_says numbered.clip_of (meets page.height band_rows band) page.marks
    (recursion_from_All (HasClipOfNumber numbered.clip_of) page.marks numbered.each)

-- and so it has the band's dots
pub band_paints : (depth : Depth) (tint : ℕ → CodeValue → List ℕ) (page : PageValue) (band_rows band : ℕ)
    (split : BandListsValue) → HaveNumberedClips page.marks → IsSplit page band_rows split
    → band_text depth tint page.width page.height band_rows
    (list_marks split.parts.images (band_cmds page band_rows band)) band
    ≡ band_text depth tint page.width page.height band_rows page.marks band
band_paints depth tint page band_rows band split numbered is =
    ap (λ marks. band_text depth tint page.width page.height band_rows marks band)
    (band_says page band_rows band split numbered is)
    ∙ band_same depth tint page.width page.height band_rows band page.marks is.suited
