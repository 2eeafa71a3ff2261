-- Words of the code alone: an image being delivered, by the parts that the code keeps it in.
use Rattle.std.specs.Prelude.{ℕ, ◌*◌}
use Rattle.img_samples.specs.Decoding.{SampleFormatValue}
use Rattle.img_samples.specs.Gathering.{GatherValue}
use Rattle.img_samples.specs.declared.rows.Rows.{Rows}

-- the image whose rows these are
abbrev pub seen : SampleFormatValue → Rows → GatherValue
seen f r = record { format = f; rows = r.count; codes = r.codes.items; part = r.part.items }

-- how many codes a row has
abbrev pub row_size : SampleFormatValue → ℕ
row_size f = f.width * f.channels
