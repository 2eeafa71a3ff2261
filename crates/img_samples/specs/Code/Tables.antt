-- Words of the code alone: the table of a format's codes.
use Rattle.std.specs.Prelude.{◌≡◌, ℕ, ◌*◌, ◌/◌, ◌%◌, ◌^◌, ◌<◌, IsTrue, map}
use Rattle.std.specs.List.{range_with_len}
use Rattle.img_samples.specs.Decoding.{SampleFormatValue, sample_code}
use Rattle.img_samples.specs.declared.table.CodeTable.{CodeTable}

-- what stands at a place of the table: the codes of the first channel's samples, then those of the next
abbrev pub table_code : SampleFormatValue → ℕ → ℕ
table_code f k = sample_code f (k / 2 ^ f.bits) (k % 2 ^ f.bits)

-- a table has the codes of all samples, and where it says that it copies, a sample of 8 bits is its own code
pub record IsTableOf (f : SampleFormatValue) (t : CodeTable) : Type 0 where
  pub codes : t.codes.items ≡ map (table_code f) (range_with_len 0 (f.channels * 2 ^ f.bits))
  pub eight : IsTrue t.copies → f.bits ≡ 8
  pub copies : IsTrue t.copies → (k : ℕ) → k < f.channels * 2 ^ f.bits → table_code f k ≡ k % 256
