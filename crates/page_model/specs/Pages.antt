-- The text of a page as a portable pixmap (Netpbm, PPM, binary form P6, samples of 8 or of 16 bits). Own rule: a
-- colour without a profile is told by its code.
use Rattle.std.specs.Prelude.{ℕ, ◌+◌, ◌*◌, ◌-◌, ◌/◌, ◌%◌, min, List, [], ◌∷◌, ◌++◌, codes}
use Rattle.std.specs.List.{flat_map, range_with_len}
use Rattle.std.specs.Fmt.{decimal}
use Rattle.press_fault.specs.Plane.{CodeValue}
use Rattle.page_model.specs.Marking.{MarkValue}
use Rattle.page_model.specs.Cover.{dot_rgb}
use Rattle.page_model.specs.declared.page.Depth.{Depth}
use Rattle.page_model.specs.declared.page.Depth.TheVariants.{Eight, Sixteen}

-- the greatest value of a depth in digits, as a header tells it
abbrev pub greatest_text : Depth → List ℕ
greatest_text Eight = codes "255"
greatest_text Sixteen = codes "65535"

-- the header of a page of so many columns and rows
unfoldable pub header : Depth → ℕ → ℕ → List ℕ
header depth width height =
    codes "P6\n" ++ (decimal width ++ (codes " "
    ++ (decimal height ++ (codes "\n" ++ (greatest_text depth ++ codes "\n")))))

-- a value of 16 bits in two bytes, the more significant first
abbrev pub two_bytes : ℕ → List ℕ
two_bytes value = value / 256 ∷ value % 256 ∷ []

-- a value of a dot in bytes: one of 8 bits in one, one of 16 bits in two
abbrev pub value_bytes : Depth → ℕ → List ℕ
value_bytes Eight value = value ∷ []
value_bytes Sixteen value = two_bytes value

-- the bytes of a dot's red, green and blue
abbrev pub dot_bytes : Depth → List ℕ → List ℕ
dot_bytes Eight values = values
dot_bytes Sixteen values = flat_map two_bytes values

-- the dots of one row, from the left; tint gives the colour of a linked code by its source, at the depth
unfoldable pub row_text : Depth → (ℕ → CodeValue → List ℕ) → ℕ → List MarkValue → ℕ → List ℕ
row_text depth tint width marks row =
    flat_map (λ col. dot_bytes depth (dot_rgb depth tint marks row col)) (range_with_len 0 width)

-- the dots of so many rows, the first of them on top
unfoldable pub rows_text : Depth → (ℕ → CodeValue → List ℕ) → ℕ → ℕ → ℕ → List MarkValue → List ℕ
rows_text depth tint width first count marks = flat_map (row_text depth tint width marks) (range_with_len first count)

-- the dots of a page, row by row from the top
abbrev pub dots_text : Depth → (ℕ → CodeValue → List ℕ) → ℕ → ℕ → List MarkValue → List ℕ
dots_text depth tint width height marks = rows_text depth tint width 0 height marks

-- a whole page: its header and its dots
unfoldable pub page_text : Depth → (ℕ → CodeValue → List ℕ) → ℕ → ℕ → List MarkValue → List ℕ
page_text depth tint width height marks = header depth width height ++ dots_text depth tint width height marks

-- how many bands a page is cut into, by rows a band
abbrev pub band_count : ℕ → ℕ → ℕ
band_count height band_rows = (height + band_rows - 1) / band_rows

-- how many rows a band has; the last may have fewer than the others
abbrev pub rows_of_band : ℕ → ℕ → ℕ → ℕ
rows_of_band height band_rows band = min ((band + 1) * band_rows) height - band * band_rows

-- the dots of one band of a page that is cut into bands of so many rows
abbrev pub band_text : Depth → (ℕ → CodeValue → List ℕ) → ℕ → ℕ → ℕ → List MarkValue → ℕ → List ℕ
band_text depth tint width height band_rows marks band =
    rows_text depth tint width (band * band_rows) (rows_of_band height band_rows band) marks
