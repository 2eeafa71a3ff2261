-- Rows of data (PostScript Language Reference, third edition, 4.10 Images: sample data).
use Rattle.std.specs.Prelude.{ℕ, ◌+◌, ◌*◌, ◌-◌, ◌/◌, ◌%◌, ◌^◌, List, map, slice_index}
use Rattle.std.specs.List.{range_with_len}
use Rattle.img_samples.specs.Decoding.{SampleFormatValue, sample_code}

-- how many bytes a row takes: it is padded to whole bytes
abbrev pub row_bytes : SampleFormatValue → ℕ
row_bytes f = (f.width * f.channels * f.bits + 7) / 8

-- the sample at a place of a row, counted from 0: samples follow one another bit by bit, the high bits of a byte first
unfoldable pub packed_sample : ℕ → List ℕ → ℕ → ℕ
packed_sample bits row k = slice_index row (k * bits / 8) / 2 ^ (8 - bits - k * bits % 8) % 2 ^ bits

-- the code at a place of a row: the channels of a colour follow one another
unfoldable pub row_code : SampleFormatValue → List ℕ → ℕ → ℕ
row_code f row k = sample_code f (k % f.channels) (packed_sample f.bits row k)

-- the codes of a row of data; what pads it has none
abbrev pub row_codes : SampleFormatValue → List ℕ → List ℕ
row_codes f row = map (row_code f row) (range_with_len 0 (f.width * f.channels))
