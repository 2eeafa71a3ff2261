-- A page on its way into bands. Own rule: words of the code alone.
use Rattle.std.specs.Prelude.{◌≡◌, ℕ, ◌<◌, List, length, slice_index_or}
use Rattle.std.specs.List.{AllByRecursion}
use Rattle.page_model.specs.Marking.{MarkValue}
use Rattle.page_model.specs.Pages.{band_count}
use Rattle.band_writer.specs.Bands.{meets, images_of}
use Rattle.band_writer.specs.Parts.{IsSuitedMark}
use Rattle.band_writer.specs.Code.Drafts.{DraftValue, IsDraft}
use Rattle.band_writer.specs.declared.splitting.Work.{Work}

-- the drafts of the bands of a page of so many rows, after some of its marks
pub record AreDrafts (rows band_rows : ℕ) (marks : List MarkValue) (drafts : List DraftValue) : Type 0 where
  pub count : length drafts ≡ band_count rows band_rows
  pub each : (band : ℕ) (d : DraftValue) → band < length drafts
      → IsDraft (meets rows band_rows band) marks (slice_index_or drafts band d)

-- a page of so many rows after some of its marks, on its way into bands of so many rows
pub record IsUnderWay (rows band_rows : ℕ) (marks : List MarkValue) (work : Work) : Type 0 where
  pub page : work.height ≡ rows
  pub band : work.band ≡ band_rows
  pub drafts : AreDrafts rows band_rows marks work.drafts.items
  pub images : work.images ≡ images_of marks
  pub suited : AllByRecursion IsSuitedMark marks
