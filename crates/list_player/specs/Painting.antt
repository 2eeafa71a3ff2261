-- Dots painted over (PostScript Language Reference, third edition, 4.1 Imaging Model: paint is opaque, and what is
-- painted later hides what it covers). Own rule: a paint gives a dot for some places and none for the others.
use Rattle.std.specs.Prelude.{◌≡◌, ℕ, ◌+◌, ◌<◌, ◌≤◌, Bool, List, [], length, slice_index_or, Option, Some, None}
use Rattle.std.specs.Prelude.{if◌then◌else◌, false, option_map, ◌^◌}
use Rattle.std.specs.Option.{option_map_or}
use Rattle.press_fault.specs.Plane.{CodeValue}
use Rattle.page_model.specs.Image.{ImageValue}
use Rattle.geo_clip.specs.Mask.{BandMaskValue}
use Rattle.page_model.specs.Sample.{code_at, mask_paints}

-- the dot that is left where a paint gives one, or none, over a dot
abbrev pub over : {D : Type 0} → Option D → D → D
over None dot = dot
over (Some paint) dot = paint

-- the dot that two paints give, one after the other
abbrev pub later : {D : Type 0} → Option D → Option D → Option D
later first None = first
later first (Some dot) = Some dot

-- what a paint gives where a test is passed, and nothing elsewhere
abbrev pub given_where : {D : Type 0} → Option D → Bool → Option D
given_where paint holds = if holds then paint else None

-- a row of dots after a paint
pub record IsPainted {D : Type 0} (paint : ℕ → Option D) (old new : List D) : Type 0 where
  pub size : length new ≡ length old
  pub dots : (col : ℕ) (d : D) → col < length old
      → slice_index_or new col d ≡ over (paint col) (slice_index_or old col d)

-- rows of dots, of which the first, so many, are painted, and the others are as before; the first of all is the page's
-- row of this number
pub record ArePainted {D : Type 0} (first count : ℕ) (paint : ℕ → ℕ → Option D) (old new : List (List D)) : Type 0 where
  pub size : length new ≡ length old
  pub painted : (k : ℕ) → k < count → k < length old
      → IsPainted (paint (first + k)) (slice_index_or old k []) (slice_index_or new k [])
  pub others : (k : ℕ) → count ≤ k → slice_index_or new k [] ≡ slice_index_or old k []

-- each row has so many dots
pub record AreWide {D : Type 0} (width : ℕ) (rows : List (List D)) : Type 0 where
  pub each : (k : ℕ) → k < length rows → length (slice_index_or rows k []) ≡ width

-- the rows of a band of so many columns and rows
pub record IsBand {D : Type 0} (clip : BandMaskValue) (rows : List (List D)) : Type 0 where
  pub size : length rows ≡ clip.rows
  pub wide : AreWide clip.width rows
  pub numbered : clip.first + clip.rows ≤ 2 ^ 32
  pub narrow : clip.width < 2 ^ 32

-- what the sample of a dot paints it with, if it has one: the dot that its code is given
abbrev pub sample_dot : {D : Type 0} → (CodeValue → D) → ImageValue → Option ℕ → Option D
sample_dot dot image sample = option_map (λ number. dot (code_at image number)) sample

-- what a mask paints a dot with: the ink's dot, where its sample is there and has to be painted
abbrev pub mask_dot : {D : Type 0} → D → ImageValue → Option ℕ → Option D
mask_dot ink image sample = given_where (Some ink) (option_map_or (mask_paints image) sample false)
