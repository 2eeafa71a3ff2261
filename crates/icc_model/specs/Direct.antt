-- Colour from one profile to another (ICC.1:2010, Annex F: the models of monochrome and matrix profiles; 8.3 to 8.5:
-- luts; 6.3: joined in the PCS).
use Rattle.std.specs.Prelude.{ℕ, ◌*◌, ◌+◌, ◌≤◌, ◌==◌, Bool, true, false, not, List, [], ◌∷◌, map, take, slice_index}
use Rattle.std.specs.Prelude.{slice_index_or, Option, Some, None, ℤ, pos, ◌≤ℤ◌, ◌+ℤ◌, ◌-ℤ◌, ◌*ℤ◌, unsigned_abs}
use Rattle.std.specs.Prelude.{if◌then◌else◌}
use Rattle.press_nums.specs.Rounding.{div_round, div_round_signed}
use Rattle.press_fault.specs.Plane.{CodeValue}
use Rattle.icc_tables.specs.Rounded.{rounded, clamped}
use Rattle.icc_tables.specs.Curves.{CurveValue, curve_at, curve_back}
use Rattle.icc_tables.specs.Lattice.{LutValue, lut_value}
use Rattle.icc_stages.specs.Stages.{StagesValue, stages_at}
use Rattle.icc_tables.specs.Pcs.{PcsValue, IsXyz, IsLab, in_xyz, in_lightness, in_chroma, white, xyz_to_lab, lab_to_xyz}
use Rattle.icc_model.specs.Profile.{ProfileValue, chosen}
use Rattle.icc_model.specs.declared.profile.Transform.{Transform}
use Rattle.icc_model.specs.declared.profile.Transform.TheVariants.{Lut, Stages}
use Rattle.icc_model.specs.declared.profile.Base.{Base}
use Rattle.icc_model.specs.declared.profile.Base.TheVariants.{Matrix, Gray}
use Rattle.icc_model.specs.declared.profile.Intent.{Intent}

-- Matrix profiles (Annex F, three-component matrix-based profiles). The nine numbers are the red, the green and the
-- blue column, X, Y and Z of each, in 1/65536.

-- a column of the matrix: 0 red, 1 green, 2 blue
abbrev pub column : List ℤ → ℕ → PcsValue
column columns k = record {
  first = slice_index_or columns (3 * k) (pos 0);
  second = slice_index_or columns (3 * k + 1) (pos 0);
  third = slice_index_or columns (3 * k + 2) (pos 0);
}

-- the curve of a channel
abbrev pub curve_of : List CurveValue → ℕ → CurveValue
curve_of curves k = slice_index_or curves k None

-- what a curve makes of a code of 8 bits, which is 257 times as great in 16
abbrev pub linear_of : CurveValue → ℕ → ℕ
linear_of curve code = curve_at curve (257 * code)

-- one number of XYZ: red, green and blue, each times its own
abbrev pub mixed : ℕ → ℕ → ℕ → ℤ → ℤ → ℤ → ℤ
mixed r g b red green blue = in_xyz (div_round (red *ℤ pos r +ℤ green *ℤ pos g +ℤ blue *ℤ pos b) (pos 65535))

-- XYZ of linear red, green and blue: the sum of the three columns, each times its value
abbrev pub of_linear : PcsValue → PcsValue → PcsValue → ℕ → ℕ → ℕ → PcsValue
of_linear red green blue r g b = record {
  first = mixed r g b red.first green.first blue.first;
  second = mixed r g b red.second green.second blue.second;
  third = mixed r g b red.third green.third blue.third;
}

-- XYZ of a code by a matrix: each channel through its curve, and then the columns (Annex F, three-component
-- matrix-based)
abbrev pub matrix_source : List ℤ → List CurveValue → List ℕ → PcsValue
matrix_source columns curves code =
    of_linear (column columns 0) (column columns 1) (column columns 2)
    (linear_of (curve_of curves 0) (slice_index code 0))
    (linear_of (curve_of curves 1) (slice_index code 1)) (linear_of (curve_of curves 2) (slice_index code 2))

-- Gray profiles (Annex F, monochrome): the white of the PCS, or L* alone, by the value of the curve.
abbrev pub gray_of : Bool → ℕ → PcsValue
gray_of false g = record {
  first = in_xyz (div_round (white.first *ℤ pos g) (pos 65535));
  second = in_xyz (div_round (white.second *ℤ pos g) (pos 65535));
  third = in_xyz (div_round (white.third *ℤ pos g) (pos 65535));
}
gray_of true g = record {
  first = in_lightness (div_round (pos (6553600 * g)) (pos 65535));
  second = pos 0;
  third =
      pos 0;
}

-- The PCS in a lut's values: of 16 bits XYZ by 1/32768 (u1Fixed15), and Lab in the legacy encoding (10.8: L* of 100
-- is FF00 hex, and 0 of a* and b* 8000 hex); of 8 bits Lab alone (10.9: L* of 100 is FF hex, 0 of a* and b* 80 hex).
abbrev pub decoded : Bool → Bool → ℕ → ℕ → ℕ → PcsValue
decoded true false x y z = record {
  first = in_xyz (pos (2 * x));
  second = in_xyz (pos (2 * y));
  third =
      in_xyz (pos (2 * z));
}
decoded true true l a b = record {
  first = in_lightness (div_round (pos (l * 6553600)) (pos 65280));
  second = in_chroma ((pos a -ℤ pos 32768) *ℤ pos 256);
  third = in_chroma ((pos b -ℤ pos 32768) *ℤ pos 256);
}
decoded false lab l a b = record {
  first = in_lightness (div_round (pos (l * 6553600)) (pos 255));
  second = in_chroma ((pos a -ℤ pos 128) *ℤ pos 65536);
  third = in_chroma ((pos b -ℤ pos 128) *ℤ pos 65536);
}

-- the same of the three values of a list
abbrev pub decoded_list : Bool → Bool → List ℕ → PcsValue
decoded_list wide lab values = decoded wide lab (slice_index values 0) (slice_index values 1) (slice_index values 2)

-- a code in a lut's values: 257 times itself in 16 bits, itself in 8
abbrev pub entered : Bool → List ℕ → List ℕ
entered wide codes = map (λ c. if wide then 257 * c else c) codes

-- PCS values of a code by a lut
abbrev pub lut_source : LutValue → Bool → List ℕ → PcsValue
lut_source lut lab codes = decoded_list lut.wide lab (lut_value lut (entered lut.wide codes))

-- The PCS in the values of stages: XYZ as in a lut's of 16 bits, and Lab in its own encoding of 16 bits (6.3.4.2:
-- L* of 100 is FFFF hex, 0 of a* and b* 8080 hex).
abbrev pub staged : Bool → ℕ → ℕ → ℕ → PcsValue
staged false x y z = decoded true false x y z
staged true l a b = record {
  first = in_lightness (div_round (pos (l * 6553600)) (pos 65535));
  second = in_chroma (div_round (pos (a * 16711680)) (pos 65535) -ℤ pos 8388608);
  third = in_chroma (div_round (pos (b * 16711680)) (pos 65535) -ℤ pos 8388608);
}

-- the same of the three values of a list
abbrev pub staged_list : Bool → List ℕ → PcsValue
staged_list lab values = staged lab (slice_index values 0) (slice_index values 1) (slice_index values 2)

-- PCS values of a code by stages
abbrev pub stages_source : StagesValue → Bool → List ℕ → PcsValue
stages_source stages lab codes = staged_list lab (stages_at stages (entered true codes))

-- The PCS values of a code: by the transform for the intent, else by the matrix or the gray curve. (A profile has one
-- of them.)
abbrev pub source_by : Option Transform → Option Base → Bool → CodeValue → PcsValue
source_by (Some (Lut lut)) base lab code = lut_source lut lab (take code.n code.c)
source_by (Some (Stages stages)) base lab code = stages_source stages lab (take code.n code.c)
source_by None (Some (Matrix columns curves)) lab code = matrix_source columns curves code.c
source_by None (Some (Gray curve)) lab code = gray_of lab (linear_of curve (slice_index code.c 0))
source_by None None lab code = record { first = pos 0; second = pos 0; third = pos 0 }

-- the PCS values that a source gives a code at an intent
unfoldable pub source_of : ProfileValue → Intent → CodeValue → PcsValue
source_of profile intent code = source_by (chosen profile.forward intent) profile.base profile.lab code

-- PCS values in the other PCS, only where the two differ
unfoldable pub carried : Bool → Bool → PcsValue → PcsValue
carried true false v = lab_to_xyz v
carried false true v = xyz_to_lab v
carried true true v = v
carried false false v = v

-- the cross product and the dot product of columns
abbrev pub cross : PcsValue → PcsValue → PcsValue
cross u v = record {
  first = u.second *ℤ v.third -ℤ u.third *ℤ v.second;
  second = u.third *ℤ v.first -ℤ u.first *ℤ v.third;
  third = u.first *ℤ v.second -ℤ u.second *ℤ v.first;
}

-- the dot product of two columns
abbrev pub dot : PcsValue → PcsValue → ℤ
dot u v = u.first *ℤ v.first +ℤ u.second *ℤ v.second +ℤ u.third *ℤ v.third

-- the determinant of three columns; the rows of their adjugate are the cross products of two of them
abbrev pub determinant : PcsValue → PcsValue → PcsValue → ℤ
determinant red green blue = dot (cross green blue) red

-- the linear value of a channel, by its row of the adjugate
abbrev pub solved : ℤ → PcsValue → PcsValue → ℤ
solved det row xyz = clamped (pos 0) (pos 65535) (div_round_signed (dot row xyz *ℤ pos 65535) det)

-- the code of 16 bits whose curve reaches a linear value
abbrev pub returned : CurveValue → ℤ → ℕ
returned curve linear = curve_back curve (unsigned_abs linear)

-- the code of 16 bits of XYZ by three columns: the linear values by the adjugate, and each curve read backwards
abbrev pub inverse_of : PcsValue → PcsValue → PcsValue → List CurveValue → PcsValue → List ℕ
inverse_of red green blue curves xyz =
    returned (curve_of curves 0) (solved (determinant red green blue) (cross green blue) xyz)
    ∷ returned (curve_of curves 1) (solved (determinant red green blue) (cross blue red) xyz)
    ∷ returned (curve_of curves 2) (solved (determinant red green blue) (cross red green) xyz) ∷ []

-- the code of 16 bits that a matrix gives XYZ
abbrev pub matrix_target : List ℤ → List CurveValue → PcsValue → List ℕ
matrix_target columns curves xyz = inverse_of (column columns 0) (column columns 1) (column columns 2) curves xyz

-- whether a matrix can be inverted
abbrev pub is_invertible : List ℤ → Bool
is_invertible columns = not (unsigned_abs (determinant (column columns 0) (column columns 1) (column columns 2)) == 0)

-- PCS values in a lut's values, the other way
abbrev pub in_16 : ℤ → ℤ
in_16 n = clamped (pos 0) (pos 65535) n

-- a value of 8 bits: what is below 0 is 0, and what is above 255 is 255
abbrev pub in_8 : ℤ → ℤ
in_8 n = clamped (pos 0) (pos 255) n

-- PCS values as a lut's values, of 16 or 8 bits, XYZ or Lab: the other way of `decoded`
abbrev pub encoded : Bool → Bool → PcsValue → PcsValue
encoded true false v = record {
  first = in_16 (div_round v.first (pos 2));
  second = in_16 (div_round v.second (pos 2));
  third = in_16 (div_round v.third (pos 2));
}
encoded true true v = record {
  first = in_16 (div_round (v.first *ℤ pos 65280) (pos 6553600));
  second = in_16 (div_round v.second (pos 256) +ℤ pos 32768);
  third = in_16 (div_round v.third (pos 256) +ℤ pos 32768);
}
encoded false lab v = record {
  first = in_8 (div_round (v.first *ℤ pos 255) (pos 6553600));
  second = in_8 (div_round v.second (pos 65536) +ℤ pos 128);
  third = in_8 (div_round v.third (pos 65536) +ℤ pos 128);
}

-- a lut's matrix, which is used for XYZ alone (10.8)
abbrev pub row_of : List ℤ → ℕ → PcsValue
row_of matrix k = column matrix k

-- XYZ in a lut's values, times the lut's matrix
abbrev pub by_matrix : List ℤ → PcsValue → PcsValue
by_matrix matrix v = record {
  first = in_16 (div_round (dot (row_of matrix 0) v) (pos 65536));
  second = in_16 (div_round (dot (row_of matrix 1) v) (pos 65536));
  third = in_16 (div_round (dot (row_of matrix 2) v) (pos 65536));
}

-- the values with which a lut begins
abbrev pub begun : LutValue → Bool → PcsValue → PcsValue
begun lut lab v = if lab then encoded lut.wide lab v else by_matrix lut.matrix (encoded lut.wide lab v)

-- three numbers from 0 on as a list
abbrev pub counts_of : PcsValue → List ℕ
counts_of v = unsigned_abs v.first ∷ unsigned_abs v.second ∷ unsigned_abs v.third ∷ []

-- values of 8 bits are 257 times as great in 16
abbrev pub widened : Bool → List ℕ → List ℕ
widened wide values = map (λ v. if wide then v else 257 * v) values

-- the three values of 16 bits of PCS values by a lut
abbrev pub lut_target : LutValue → Bool → PcsValue → List ℕ
lut_target lut lab v = widened lut.wide (lut_value lut (counts_of (begun lut lab v)))

-- PCS values in the values of stages: the other way of `staged`
abbrev pub staged_back : Bool → PcsValue → PcsValue
staged_back false v = encoded true false v
staged_back true v = record {
  first = in_16 (div_round (v.first *ℤ pos 65535) (pos 6553600));
  second = in_16 (div_round ((v.second +ℤ pos 8388608) *ℤ pos 65535) (pos 16711680));
  third = in_16 (div_round ((v.third +ℤ pos 8388608) *ℤ pos 65535) (pos 16711680));
}

-- the three values of 16 bits of PCS values by stages
abbrev pub stages_target : StagesValue → Bool → PcsValue → List ℕ
stages_target stages lab v = stages_at stages (counts_of (staged_back lab v))

-- the three values of 16 bits of PCS values: by the transform for the intent, else by the matrix
abbrev pub target_by : Option Transform → Option Base → Bool → PcsValue → List ℕ
target_by (Some (Lut lut)) base lab v = lut_target lut lab v
target_by (Some (Stages stages)) base lab v = stages_target stages lab v
target_by None (Some (Matrix columns curves)) lab v = matrix_target columns curves v
target_by None (Some (Gray curve)) lab v = 0 ∷ 0 ∷ 0 ∷ []
target_by None None lab v = 0 ∷ 0 ∷ 0 ∷ []

-- the three values of 16 bits that a target gives PCS values at an intent
unfoldable pub target_of : ProfileValue → Intent → PcsValue → List ℕ
target_of profile intent v = target_by (chosen profile.backward intent) profile.base profile.lab v

-- whether a profile can receive at an intent: it has a transform for it, or a matrix that can be inverted
abbrev pub receives_by : Option Transform → Option Base → Bool
receives_by (Some transform) base = true
receives_by None (Some (Matrix columns curves)) = is_invertible columns
receives_by None (Some (Gray curve)) = false
receives_by None None = false

-- whether a profile can be a target at an intent
unfoldable pub can_receive : ProfileValue → Intent → Bool
can_receive profile intent = receives_by (chosen profile.backward intent) profile.base

-- direct colour of 16 bits: the source's PCS values, carried over, in the target
unfoldable pub direct_wide : ProfileValue → ProfileValue → Intent → CodeValue → List ℕ
direct_wide source target intent code = target_of target intent
    (carried source.lab target.lab (source_of source intent code))

-- direct colour of 8 bits: each of these values rounded
unfoldable pub narrowed : ℕ → ℕ
narrowed v = rounded (v * 255) 65535

-- direct colour of 8 bits: each value of 16 bits rounded to 8
unfoldable pub direct : ProfileValue → ProfileValue → Intent → CodeValue → List ℕ
direct source target intent code = map narrowed (direct_wide source target intent code)

-- numbers in the range of their PCS
abbrev pub IsIn : Bool → PcsValue → Type 0
IsIn true v = IsLab v
IsIn false v = IsXyz v

-- three numbers whose magnitudes are at most n
pub record AreWithin (n : ℕ) (v : PcsValue) : Type 0 where
  pub first : unsigned_abs v.first ≤ n
  pub second : unsigned_abs v.second ≤ n
  pub third : unsigned_abs v.third ≤ n

-- three numbers from 0 to most
pub record AreCounts (most : ℕ) (v : PcsValue) : Type 0 where
  pub first : (pos 0 ≤ℤ v.first) × (v.first ≤ℤ pos most)
  pub second : (pos 0 ≤ℤ v.second) × (v.second ≤ℤ pos most)
  pub third : (pos 0 ≤ℤ v.third) × (v.third ≤ℤ pos most)
