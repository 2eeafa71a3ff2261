-- How a mask keeps its rows: each as the spans of its open dots. Own rule: words of the code alone.
use Rattle.std.specs.Prelude.{◌≡◌, ℕ, ◌+◌, ◌<◌, ◌≤◌, ◌^◌, List, [], length, slice_index_or}
use Rattle.page_model.specs.Marking.{RegionValue}
use Rattle.geo_fill.specs.Spans.{SpanValue, HaveJust}
use Rattle.geo_clip.specs.Mask.{is_open}

-- the rows before one show the regions
pub record ShowRows (band : List (List SpanValue)) (width first rows : ℕ) (regions : List RegionValue) : Type 0 where
  pub each : (k : ℕ) → k < rows → HaveJust (slice_index_or band k []) 0 width (is_open regions (first + k))

-- the rows from one on show the regions
pub record ShowRowsFrom (band : List (List SpanValue)) (width first i rows : ℕ)
    (regions : List RegionValue) : Type 0 where
  pub each : (k : ℕ) → i ≤ k → k < rows → HaveJust (slice_index_or band k []) 0 width (is_open regions (first + k))

-- what a mask keeps: the rows that it shows, and as many that the next clip is put into
pub record IsMask (width first rows : ℕ) (shown spare : List (List SpanValue))
    (regions : List RegionValue) : Type 0 where
  pub numbered : first + rows ≤ 2 ^ 32
  pub size : length shown ≡ rows
  pub spans : ShowRows shown width first rows regions
  pub room : length spare ≡ rows
