-- An image whose data are being delivered (PostScript Language Reference, third edition, 4.10 Images: data sources).
-- Own rule: only rows that were delivered whole count, so a part of a row paints nothing.
use Rattle.std.specs.Prelude.{◌≡◌, ℕ, ◌+◌, ◌*◌, ◌-◌, ◌≤◌, ◌==◌, List, [], ◌∷◌, ◌++◌, length, if◌then◌else◌}
use Rattle.img_samples.specs.Decoding.{SampleFormatValue}
use Rattle.img_samples.specs.Rows.{row_bytes, row_codes}

-- how the data are read, how many rows came whole, the codes of these, and the bytes of the next row that came
pub record GatherValue : Type 0 where
  pub format : SampleFormatValue
  pub rows : ℕ
  pub codes : List ℕ
  pub part : List ℕ

-- an image of which nothing was delivered
abbrev pub nothing_of : SampleFormatValue → GatherValue
nothing_of f = record { format = f; rows = 0; codes = []; part = [] }

-- how many bytes more the image takes
abbrev pub missing : GatherValue → ℕ
missing g = row_bytes g.format * (g.format.height - g.rows) - length g.part

-- one byte more: with the last byte of a row the row's codes are there
unfoldable pub with_byte : GatherValue → ℕ → GatherValue
with_byte g byte =
    if length g.part + 1 == row_bytes g.format
    then record {
      format = g.format;
      rows = g.rows + 1;
      codes = g.codes ++ row_codes g.format (g.part ++ byte ∷ []);
      part = [];
    }
    else record { format = g.format; rows = g.rows; codes = g.codes; part = g.part ++ byte ∷ [] }

-- these bytes more, one after another
abbrev pub fed : GatherValue → List ℕ → GatherValue
fed g [] = g
fed g (byte ∷ bytes) = fed (with_byte g byte) bytes

-- a row that came whole has its codes; of the next row fewer bytes came than it has, and none behind the last row
pub record IsGather (g : GatherValue) : Type 0 where
  pub codes : length g.codes ≡ g.format.width * g.format.channels * g.rows
  pub rows : g.rows ≤ g.format.height
  pub part : length g.part ≤ row_bytes g.format - 1
  pub last : length g.part ≤ row_bytes g.format * (g.format.height - g.rows)
