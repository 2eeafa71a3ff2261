-- The rows of a page that a mark can touch. Own rule: those whose centres lie between its least and its
-- greatest y, both included; its clip isn't asked, and a mark without points reaches no row.
use Rattle.std.specs.Prelude.{◌≡◌, ℕ, ◌≤◌, ◌<◌, Bool, false, ◌&&◌, ◌||◌, ◌↔◌, IsTrue, ℤ, pos, ◌+ℤ◌, ◌-ℤ◌, int_le}
use Rattle.std.specs.List.{list_any}
use Rattle.press_fault.specs.Plane.{PointValue}
use Rattle.page_model.specs.Inside.{centre}
use Rattle.page_model.specs.Marking.{MarkValue, PaintValue, Flatly, Pictured, Masked}
use Rattle.page_model.specs.declared.shape.Shape.{Shape}
use Rattle.page_model.specs.declared.shape.Shape.TheVariants.{Poly, Disc}

-- whether the least y of a shape is at most this height
abbrev pub starts_by : ℤ → Shape → Bool
starts_by y (Poly rings) = list_any (list_any (λ (p : PointValue). int_le p.y y)) rings
starts_by y (Disc d) = int_le (d.y -ℤ pos d.r) y

-- whether the greatest y of a shape is at least this height
abbrev pub ends_from : ℤ → Shape → Bool
ends_from y (Poly rings) = list_any (list_any (λ (p : PointValue). int_le y p.y)) rings
ends_from y (Disc d) = int_le y (d.y +ℤ pos d.r)

-- whether the least height of a mark's image is at most this height
abbrev pub image_starts_by : ℤ → PaintValue → Bool
image_starts_by y (Flatly ink) = false
image_starts_by y (Pictured image) = int_le image.low y
image_starts_by y (Masked image ink) = int_le image.low y

-- the greatest height of an image or mask is at least this height; an ink alone has none
abbrev pub image_ends_from : ℤ → PaintValue → Bool
image_ends_from y (Flatly ink) = false
image_ends_from y (Pictured image) = int_le y image.high
image_ends_from y (Masked image ink) = int_le y image.high

-- whether the least y of a mark's shapes and image is at most this height
unfoldable pub mark_starts_by : ℤ → MarkValue → Bool
mark_starts_by y mark = list_any (starts_by y) mark.shapes || image_starts_by y mark.paint

-- the greatest y of a mark's shapes and image is at least this height
unfoldable pub mark_ends_from : ℤ → MarkValue → Bool
mark_ends_from y mark = list_any (ends_from y) mark.shapes || image_ends_from y mark.paint

-- whether a mark reaches a row: the row's centre lies between its least and its greatest y; its clip isn't asked
abbrev pub reaches : MarkValue → ℕ → Bool
reaches mark row = mark_starts_by (centre row) mark && mark_ends_from (centre row) mark

-- the rows that a mark reaches on a page of so many rows: from first up to and without end, both 0 where there are none
pub record IsReach (mark : MarkValue) (height first end : ℕ) : Type 0 where
  pub within : end ≤ height
  pub rows : (row : ℕ) → row < height → IsTrue (reaches mark row) ↔ ((first ≤ row) × (row < end))
  -- where there are none, both are 0
  pub none : end ≤ first → (first ≡ 0) × (end ≡ 0)
