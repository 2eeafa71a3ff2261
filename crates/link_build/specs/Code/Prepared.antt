-- Words of the code alone: what a link works out before it meets a code.
use Rattle.std.specs.Prelude.{◌≡◌, ℕ, ◌^◌, ◌<◌, ◌≤◌, List, [], ◌∷◌, length, slice_index, slice_index_or}
use Rattle.std.specs.Prelude.{ℤ, pos, ◌+ℤ◌, ◌*ℤ◌, unsigned_abs}
use Rattle.press_nums.specs.Rounding.{div_round}
use Rattle.icc_tables.specs.Curves.{CurveValue, curve_at, curve_back}
use Rattle.icc_tables.specs.Pcs.{PcsValue, in_xyz}
use Rattle.icc_model.specs.Direct.{column, curve_of, linear_of, cross, determinant, solved, AreWithin}

-- the share that a channel's column has in XYZ
abbrev pub share_of : PcsValue → ℕ → PcsValue
share_of column linear = record {
  first = column.first *ℤ pos linear;
  second = column.second *ℤ pos linear;
  third = column.third *ℤ pos linear;
}

-- the share of a code
abbrev pub share_at : List PcsValue → ℕ → PcsValue
share_at shares code = slice_index_or shares code (record { first = pos 0; second = pos 0; third = pos 0 })

-- one number of XYZ of three shares
abbrev pub whole_of : ℤ → ℤ → ℤ → ℤ
whole_of red green blue = in_xyz (div_round (red +ℤ green +ℤ blue) (pos 65535))

-- XYZ of three shares
abbrev pub xyz_of : PcsValue → PcsValue → PcsValue → PcsValue
xyz_of red green blue = record {
  first = whole_of red.first green.first blue.first;
  second = whole_of red.second green.second blue.second;
  third = whole_of red.third green.third blue.third;
}

-- so many shares that are small
pub record AreSmallShares (count : ℕ) (shares : List PcsValue) : Type 0 where
  pub all : length shares ≡ count
  pub small : (code : ℕ) → code < count → AreWithin (2 ^ 47) (share_at shares code)

-- the shares of the first codes of a channel
pub record AreShares (column : PcsValue) (curve : CurveValue) (count : ℕ) (shares : List PcsValue) : Type 0 where
  pub small : AreSmallShares count shares
  pub each : (code : ℕ) → code < count → share_at shares code ≡ share_of column (linear_of curve code)

-- the shares of the codes of red, green and blue
pub record MixtureValue : Type 0 where
  pub red : List PcsValue
  pub green : List PcsValue
  pub blue : List PcsValue

-- XYZ of a code by its shares
abbrev pub mixture_of : MixtureValue → List ℕ → PcsValue
mixture_of shares code =
    xyz_of (share_at shares.red (slice_index code 0)) (share_at shares.green (slice_index code 1))
    (share_at shares.blue (slice_index code 2))

-- the shares are those of a matrix
pub record IsMixtureOf (columns : List ℤ) (curves : List CurveValue) (shares : MixtureValue) : Type 0 where
  pub red : AreShares (column columns 0) (curve_of curves 0) 256 shares.red
  pub green : AreShares (column columns 1) (curve_of curves 1) 256 shares.green
  pub blue : AreShares (column columns 2) (curve_of curves 2) 256 shares.blue

-- the values of a code are bytes
pub record AreBytes (code : List ℕ) : Type 0 where
  pub first : slice_index code 0 < 256
  pub second : slice_index code 1 < 256
  pub third : slice_index code 2 < 256
  pub fourth : slice_index code 3 < 256

-- a curve read backwards at each value of 16 bits
pub record IsBackOf (curve : CurveValue) (codes : List ℕ) : Type 0 where
  pub count : length codes ≡ 65536
  pub each : (v : ℕ) → v < 65536 → slice_index codes v ≡ curve_back curve v

-- the same of the values that codes below one reach
pub record IsBackUpTo (curve : CurveValue) (code : ℕ) (codes : List ℕ) : Type 0 where
  pub few : length codes ≤ 65536
  pub each : (v : ℕ) → v < length codes → slice_index codes v ≡ curve_back curve v
  pub none : (s : ℕ) → s < code → curve_at curve s < length codes

-- a matrix turned round: the rows of its adjugate, its determinant, and its curves read backwards
pub record InverseValue : Type 0 where
  pub det : ℤ
  pub red_row : PcsValue
  pub green_row : PcsValue
  pub blue_row : PcsValue
  pub red : List ℕ
  pub green : List ℕ
  pub blue : List ℕ

-- what each of these keeps
pub record IsInverse (i : InverseValue) : Type 0 where
  pub some : 0 < unsigned_abs i.det
  pub det : unsigned_abs i.det < 2 ^ 96
  pub red_row : AreWithin (2 ^ 63) i.red_row
  pub green_row : AreWithin (2 ^ 63) i.green_row
  pub blue_row : AreWithin (2 ^ 63) i.blue_row
  pub red : length i.red ≡ 65536
  pub green : length i.green ≡ 65536
  pub blue : length i.blue ≡ 65536

-- a determinant and rows of an adjugate of which 64 bits hold all that comes
pub record IsNarrow (d : ℤ) (r g b : PcsValue) : Type 0 where
  pub det : unsigned_abs d < 2 ^ 47
  pub red : AreWithin (2 ^ 44) r
  pub green : AreWithin (2 ^ 44) g
  pub blue : AreWithin (2 ^ 44) b

-- the code of 16 bits that it gives XYZ
abbrev pub inverted : InverseValue → PcsValue → List ℕ
inverted i xyz =
    slice_index i.red (unsigned_abs (solved i.det i.red_row xyz))
    ∷ slice_index i.green (unsigned_abs (solved i.det i.green_row xyz))
    ∷ slice_index i.blue (unsigned_abs (solved i.det i.blue_row xyz)) ∷ []

-- it is that of a matrix
pub record IsInverseOf (columns : List ℤ) (curves : List CurveValue) (i : InverseValue) : Type 0 where
  pub det : i.det ≡ determinant (column columns 0) (column columns 1) (column columns 2)
  pub red_row : i.red_row ≡ cross (column columns 1) (column columns 2)
  pub green_row : i.green_row ≡ cross (column columns 2) (column columns 0)
  pub blue_row : i.blue_row ≡ cross (column columns 0) (column columns 1)
  pub red : IsBackOf (curve_of curves 0) i.red
  pub green : IsBackOf (curve_of curves 1) i.green
  pub blue : IsBackOf (curve_of curves 2) i.blue
