-- Words of the code alone: what is carried along a row.
use Rattle.std.specs.Prelude.{ℕ, ◌+◌, ◌*◌, ◌<◌, ◌^◌, Option, ℤ, pos, ◌+ℤ◌, ◌*ℤ◌, ◌<ℤ◌, ◌≤ℤ◌, unsigned_abs}
use Rattle.press_nums.specs.Floor.{IsFloorDivision}
use Rattle.press_nums.specs.declared.floor.FloorDivision.{FloorDivision}
use Rattle.page_model.specs.Image.{ImageMapValue, ImageValue}
use Rattle.page_model.specs.Sample.{column_at, row_at, place_of, sample_of}

-- where the centre of a dot lies across the samples, in columns times the map's denominator
abbrev pub across : ImageMapValue → ℕ → ℕ → ℤ
across m row col = m.a *ℤ pos (2 * col + 1) +ℤ m.c *ℤ pos (2 * row + 1) +ℤ m.tx

-- where the centre of a dot lies down the samples, in rows times the map's denominator
abbrev pub down : ImageMapValue → ℕ → ℕ → ℤ
down m row col = m.b *ℤ pos (2 * col + 1) +ℤ m.d *ℤ pos (2 * row + 1) +ℤ m.ty

-- the sample that the centre of a dot lies in, whatever the image's extent
abbrev pub sample_in : ImageValue → ℕ → ℕ → Option ℕ
sample_in image row col =
    sample_of image.width (place_of image.width (column_at image.map row col))
    (place_of image.rows (row_at image.map row col))

-- a quotient, rounded down, and what is left
abbrev pub IsDivided : ℤ → ℤ → FloorDivision → Type 0
IsDivided n d at = IsFloorDivision n d at.quotient at.remainder

-- a quotient and what is left are so small that their sums fit
pub record IsSmallDivision (at : FloorDivision) : Type 0 where
  pub quotient : unsigned_abs at.quotient < 2 ^ 92
  pub remainder : unsigned_abs at.remainder < 2 ^ 89

-- a number is one of so many places, from 0 on
pub record IsPlace (count : ℕ) (n : ℤ) : Type 0 where
  pub low : pos 0 ≤ℤ n
  pub high : n <ℤ pos count
