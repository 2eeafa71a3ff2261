-- The samples of a row's dots. Which sample a dot has is defined with the page (`sample_at` of page_model).
use Rattle.std.specs.Prelude.{◌≡◌, ℕ, ◌+◌, ◌<◌, List, length, slice_index_or, Option, Some, None}
use Rattle.page_model.specs.Image.{ImageValue}
use Rattle.page_model.specs.Sample.{sample_at}
use Rattle.img_map.specs.declared.row.Pick.{Pick}
use Rattle.img_map.specs.declared.row.Pick.TheVariants.{Outside, At}

-- the number of the picked sample, none outside
abbrev pub picked : Pick → Option ℕ
picked Outside = None
picked (At n) = Some n

-- each dot of the row from the column `from` on has its sample
abbrev pub HaveSamples : ImageValue → ℕ → ℕ → List Pick → Type 0
HaveSamples image row from picks =
    (k : ℕ) → k < length picks → picked (slice_index_or picks k Outside) ≡ sample_at image row (from + k)
