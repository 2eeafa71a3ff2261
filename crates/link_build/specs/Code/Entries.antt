-- Words of the code alone: the input tables of a lut at each code.
use Rattle.std.specs.Prelude.{◌≡◌, ℕ, ◌*◌, ◌<◌, ◌≤◌, List, length, slice_index, if◌then◌else◌}
use Rattle.icc_tables.specs.Lattice.{LutValue, entry_at, top_of}

-- what the input table of a channel gives a code
abbrev pub value_of_code : LutValue → ℕ → ℕ → ℕ
value_of_code lut channel code =
    entry_at lut.wide lut.before lut.before_count channel (if lut.wide then 257 * code else code)

-- the values that the input table of a channel gives the first codes
pub record IsTableOf (lut : LutValue) (channel count : ℕ) (table : List ℕ) : Type 0 where
  pub all : length table ≡ count
  pub each : (code : ℕ) → code < count → slice_index table code ≡ value_of_code lut channel code
  pub most : (code : ℕ) → code < count → slice_index table code ≤ top_of lut.wide

-- four tables
pub record EntriesValue : Type 0 where
  pub first : List ℕ
  pub second : List ℕ
  pub third : List ℕ
  pub fourth : List ℕ

-- the tables are those of a lut
pub record IsEntriesOf (lut : LutValue) (entries : EntriesValue) : Type 0 where
  pub first : IsTableOf lut 0 256 entries.first
  pub second : IsTableOf lut 1 256 entries.second
  pub third : IsTableOf lut 2 256 entries.third
  pub fourth : lut.inputs ≡ 4 → IsTableOf lut 3 256 entries.fourth
