-- Multi-dimensional tables (ICC.1:2010, 10.8 lut16Type and 10.9 lut8Type).
use Rattle.std.specs.Prelude.{◌≡◌, ℕ, suc, ◌+◌, ◌-◌, ◌*◌, ◌/◌, ◌%◌, ◌^◌, ◌≤◌, ◌⊎◌, Bool, true, false, List, [], ◌∷◌}
use Rattle.std.specs.Prelude.{length, slice_index, ℤ, if◌then◌else◌}
use Rattle.icc_tables.specs.Rounded.{rounded}
use Rattle.icc_tables.specs.Curves.{table_value}

-- A lut: whether its values have 16 bits (lut16Type) or 8 (lut8Type); its input channels, and grid points of each;
-- the matrix, in 1/65536 and row by row; the entries of one input and of one output table; input tables, lattice
-- (CLUT), output tables, each channel by channel. The first input channel varies least rapidly in the lattice. Own
-- rule: it has three outputs, since the PCS and what pages are made of have three.
pub record LutValue : Type 0 where
  pub wide : Bool
  pub inputs : ℕ
  pub grid : ℕ
  pub matrix : List ℤ
  pub before_count : ℕ
  pub after_count : ℕ
  pub before : List ℕ
  pub nodes : List ℕ
  pub after : List ℕ

-- the greatest value of a lut
abbrev pub top_of : Bool → ℕ
top_of wide = if wide then 65535 else 255

-- how many entries a table may have: from 2 to 4096 of 16 bits, or the 256 that 8 bits have
abbrev pub IsCount : Bool → ℕ → Type 0
IsCount true count = (2 ≤ count) × (count ≤ 4096)
IsCount false count = count ≡ 256

-- no value is above `most`
abbrev pub AreAtMost : ℕ → List ℕ → Type 0
AreAtMost most values = (k : ℕ) → slice_index values k ≤ most

-- what each lut keeps
pub record IsLut (lut : LutValue) : Type 0 where
  pub channels : (lut.inputs ≡ 1) ⊎ (lut.inputs ≡ 3) ⊎ (lut.inputs ≡ 4)
  pub grid : (2 ≤ lut.grid) × (lut.grid ≤ 255)
  pub before_count : IsCount lut.wide lut.before_count
  pub after_count : IsCount lut.wide lut.after_count
  pub before : length lut.before ≡ lut.inputs * lut.before_count
  pub nodes : length lut.nodes ≡ lut.grid ^ lut.inputs * 3
  pub after : length lut.after ≡ 3 * lut.after_count
  pub before_values : AreAtMost (top_of lut.wide) lut.before
  pub node_values : AreAtMost (top_of lut.wide) lut.nodes
  pub after_values : AreAtMost (top_of lut.wide) lut.after

-- a point of the lattice: each value is at most `top`
abbrev pub IsPoint : ℕ → List ℕ → Type 0
IsPoint top [] = Unit {0}
IsPoint top (v ∷ at) = (v ≤ top) × IsPoint top at

-- The sum over all corners of the cell that the values `at` (0 to `top`) lie in, of weight times node. Along a
-- channel the point v lies in cell v * (grid - 1) / top, and its distance from the cell's ends is the remainder r:
-- the lower end weighs top - r, the upper one r. The weight of a corner is the product of these, its place is counted
-- with the first channel varying least rapidly. `weight` and `place` are those of the channels before.
unfoldable pub corner_sum : ℕ → ℕ → List ℕ → ℕ → List ℕ → ℕ → ℕ → ℕ
corner_sum top grid nodes output [] weight place = weight * slice_index nodes (place * 3 + output)
corner_sum top grid nodes output (v ∷ at) weight place =
    corner_sum top grid nodes output at (weight * (top - v * (grid - 1) % top)) (place * grid + v * (grid - 1) / top)
    + corner_sum top grid nodes output at (weight * (v * (grid - 1) % top)) (place * grid + v * (grid - 1) / top + 1)

-- the value of one output of the lattice at a point: that sum, divided by the sum of all weights and rounded once
unfoldable pub node_value : LutValue → List ℕ → ℕ → ℕ
node_value lut at output =
    rounded (corner_sum (top_of lut.wide) lut.grid lut.nodes output at 1 0) (top_of lut.wide ^ length at)

-- the three values of the lattice at a point
abbrev pub lattice_at : LutValue → List ℕ → List ℕ
lattice_at lut at = node_value lut at 0 ∷ node_value lut at 1 ∷ node_value lut at 2 ∷ []

-- The table of one channel, of those that stand one after another: of 16 bits by interpolation, of 8 bits the entry
-- of the value itself.
abbrev pub entry_at : Bool → List ℕ → ℕ → ℕ → ℕ → ℕ
entry_at wide entries count channel v =
    if wide then table_value entries (channel * count) count v else slice_index entries (channel * count + v)

-- each value through the table of its channel, from a channel on
abbrev pub through_tables : Bool → List ℕ → ℕ → ℕ → List ℕ → List ℕ
through_tables wide entries count channel [] = []
through_tables wide entries count channel (v ∷ at) =
    entry_at wide entries count channel v ∷ through_tables wide entries count (suc channel) at

-- a lut without its matrix: input tables, lattice, output tables
abbrev pub lut_value : LutValue → List ℕ → List ℕ
lut_value lut at =
    through_tables lut.wide lut.after lut.after_count 0
    (lattice_at lut (through_tables lut.wide lut.before lut.before_count 0 at))

-- three sums of weighted values, one for each output
pub record SumsValue : Type 0 where
  pub first : ℕ
  pub second : ℕ
  pub third : ℕ

-- no sum of a lattice of up to four channels passes the greatest weight times the greatest value
pub record AreSmall (sums : SumsValue) : Type 0 where
  pub first : sums.first ≤ 65535 ^ 5
  pub second : sums.second ≤ 65535 ^ 5
  pub third : sums.third ≤ 65535 ^ 5

-- sums over all corners of a cell: what they come to, and that none passes the greatest value times the whole
pub record AreMixed (lut : LutValue) (at : List ℕ) (sums : SumsValue) : Type 0 where
  pub first : rounded sums.first (top_of lut.wide ^ lut.inputs) ≡ node_value lut at 0
  pub second : rounded sums.second (top_of lut.wide ^ lut.inputs) ≡ node_value lut at 1
  pub third : rounded sums.third (top_of lut.wide ^ lut.inputs) ≡ node_value lut at 2
  pub first_most : sums.first ≤ 65535 * top_of lut.wide ^ lut.inputs
  pub second_most : sums.second ≤ 65535 * top_of lut.wide ^ lut.inputs
  pub third_most : sums.third ≤ 65535 * top_of lut.wide ^ lut.inputs
  pub point : IsPoint (top_of lut.wide) (node_value lut at 0 ∷ node_value lut at 1 ∷ node_value lut at 2 ∷ [])
