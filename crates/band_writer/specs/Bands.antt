-- Bands of a page: which marks a band holds, and which sources it needs. Own rule: a band holds each mark that reaches
-- one of its rows, so that it can be drawn apart from the others.
use Rattle.std.specs.Prelude.{ℕ, ◌+◌, ◌*◌, ◌==◌, Bool, List, [], ◌∷◌, length, Option}
use Rattle.std.specs.List.{list_any, range_with_len, filter, filter_map, flat_map, dedup}
use Rattle.page_model.specs.Image.{ImageValue}
use Rattle.page_model.specs.Marking.{MarkValue, PaintValue, Flatly, Pictured, Masked}
use Rattle.page_model.specs.Page.{painting_source}
use Rattle.page_model.specs.Pages.{rows_of_band}
use Rattle.page_model.specs.Reach.{reaches}

-- whether a mark reaches a row of a band, on a page of so many rows that is cut into bands of so many
unfoldable pub meets : ℕ → ℕ → ℕ → MarkValue → Bool
meets height band_rows band mark =
    list_any (reaches mark) (range_with_len (band * band_rows) (rows_of_band height band_rows band))

-- the marks that a band holds, in order
abbrev pub band_marks : ℕ → ℕ → ℕ → List MarkValue → List MarkValue
band_marks height band_rows band marks = filter (meets height band_rows band) marks

-- the source by which a mark's colours go, if it has one
abbrev pub mark_source : MarkValue → Option ℕ
mark_source mark = painting_source mark.paint

-- the sources that marks need, in order: each that isn't the one before it
unfoldable pub needs_of : List MarkValue → List ℕ
needs_of marks = dedup ◌==◌ (filter_map mark_source marks)

-- the image of what a mark paints with, if it has one
abbrev pub paint_images : PaintValue → List ImageValue
paint_images (Flatly ink) = []
paint_images (Pictured image) = image ∷ []
paint_images (Masked image ink) = image ∷ []

-- the image of a mark, if it has one
abbrev pub mark_images : MarkValue → List ImageValue
mark_images mark = paint_images mark.paint

-- the images of marks, in order
unfoldable pub images_of : List MarkValue → List ImageValue
images_of marks = flat_map mark_images marks

-- a mark, and the place that its image has in the page's table, if it has one
pub record PlacedMark : Type 0 where
  pub mark : MarkValue
  pub place : ℕ

-- a mark with this place
abbrev pub placed_at : ℕ → MarkValue → PlacedMark
placed_at place mark = record { mark = mark; place = place }

-- marks with their places, the first of which is given
unfoldable pub placed_from : ℕ → List MarkValue → List PlacedMark
placed_from place [] = []
placed_from place (mark ∷ marks) = placed_at place mark ∷ placed_from (place + length (mark_images mark)) marks

-- the marks of a page that pass a test, each with the place of its image among those of all marks
unfoldable pub held_marks : (MarkValue → Bool) → List MarkValue → List PlacedMark
held_marks holds marks = filter (λ (placed : PlacedMark). holds placed.mark) (placed_from 0 marks)
