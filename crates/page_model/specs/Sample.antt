-- The sample of a dot (PostScript Language Reference, third edition, 4.10 Images).
-- Own rule: a dot has the sample that its centre lies in; no sample is mixed or interpolated.
use Rattle.std.specs.Prelude.{ℕ, ◌+◌, ◌*◌, ◌==◌, Bool, ◌&&◌, [], ◌∷◌, slice_index, Option, Some, None, nat_lt, ℤ, pos}
use Rattle.std.specs.Prelude.{negsuc, ◌+ℤ◌, ◌*ℤ◌, int_le, if◌then◌else◌}
use Rattle.std.specs.Int.{int_div_euclid}
use Rattle.press_fault.specs.Plane.{CodeValue}
use Rattle.page_model.specs.Inside.{centre}
use Rattle.page_model.specs.Image.{ImageMapValue, ImageValue}

-- n / d rounded down, for a positive d
abbrev pub floor_quotient : ℤ → ℤ → ℤ
floor_quotient n d = int_div_euclid n d

-- the column of samples that the centre of a dot lies in, also outside the image
abbrev pub column_at : ImageMapValue → ℕ → ℕ → ℤ
column_at m row col = floor_quotient (m.a *ℤ pos (2 * col + 1) +ℤ m.c *ℤ pos (2 * row + 1) +ℤ m.tx) m.den

-- the row of samples that a dot's centre lies in, also outside the image
abbrev pub row_at : ImageMapValue → ℕ → ℕ → ℤ
row_at m row col = floor_quotient (m.b *ℤ pos (2 * col + 1) +ℤ m.d *ℤ pos (2 * row + 1) +ℤ m.ty) m.den

-- a whole number as a place, where it is one of so many
abbrev pub place_of : ℕ → ℤ → Option ℕ
place_of count (pos n) = if nat_lt n count then Some n else None
place_of count (negsuc n) = None

-- the number of a sample by its column and row, counted row by row; none outside the image
abbrev pub sample_of : ℕ → Option ℕ → Option ℕ → Option ℕ
sample_of width (Some u) (Some v) = Some (width * v + u)
sample_of width (Some u) None = None
sample_of width None v = None

-- whether the centre of a page's row lies between the heights of the image
abbrev pub is_in_extent : ImageValue → ℕ → Bool
is_in_extent image row = int_le image.low (centre row) && int_le (centre row) image.high

-- the number of the sample of a dot, none where its centre lies outside the image
unfoldable pub sample_at : ImageValue → ℕ → ℕ → Option ℕ
sample_at image row col =
    if is_in_extent image row
    then sample_of image.width (place_of image.width (column_at image.map row col))
    (place_of image.rows (row_at image.map row col))
    else None

-- the code of a sample in one channel, 0 behind the last
abbrev pub value_at : ImageValue → ℕ → ℕ → ℕ
value_at image sample channel =
    if nat_lt channel image.channels then slice_index image.codes (image.channels * sample + channel) else 0

-- the code of a sample
unfoldable pub code_at : ImageValue → ℕ → CodeValue
code_at image sample = record {
  n = image.channels;
  c = value_at image sample 0 ∷ value_at image sample 1 ∷ value_at image sample 2 ∷ value_at image sample 3 ∷ [];
}

-- whether a mask paints at a sample: its byte is 255 there
unfoldable pub mask_paints : ImageValue → ℕ → Bool
mask_paints image sample = slice_index image.codes sample == 255
