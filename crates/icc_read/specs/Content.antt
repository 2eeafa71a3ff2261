-- What a tag of each kind has to be (ICC.1:2010, 10.5 curveType, 10.8 lut16Type, 10.9 lut8Type, 10.16
-- parametricCurveType, 10.29 XYZType). Own rule: a tag's type is asked from 8 bytes on; a shorter one is shorter than
-- its content.
use Rattle.std.specs.Prelude.{ℕ, ◌+◌, ◌*◌, ◌^◌, ◌==◌, ◌||◌, ◌&&◌, Bool, not, nat_le, nat_lt, List, length}
use Rattle.std.specs.Prelude.{slice_index, codes, true, false, if◌then◌else◌, Option, Some, None}
use Rattle.byteorder.specs.Endian.{big_number}
use Rattle.icc_power.specs.CurveTag as curve
use Rattle.icc_power.specs.CurveTag.{u16_at, type_of}
use Rattle.icc_v4lut.specs.StagesTag.{stages_type, stages_fault}
use Rattle.icc_v4lut.specs.declared.faults.PartFault.{PartFault}
use Rattle.icc_v4lut.specs.declared.faults.PartFault.TheVariants.{Kind, Shape}
use Rattle.icc_read.specs.Table.{xyz}
use Rattle.icc_read.specs.declared.content.Content.{Content}
use Rattle.icc_read.specs.declared.content.Content.TheVariants.{Transform, Column, Curve}

-- the type of a lut of 8 bits (10.9)
abbrev pub mft1 : ℕ
mft1 = big_number 4 (codes "mft1")

-- the type of a lut of 16 bits (10.8)
abbrev pub mft2 : ℕ
mft2 = big_number 4 (codes "mft2")

-- another type than a column of the matrix has
unfoldable pub is_other_column : List ℕ → Bool
is_other_column tag = nat_le 8 (length tag) && not (type_of tag == xyz)

-- a column is shorter than its three numbers
unfoldable pub is_bad_column : List ℕ → Bool
is_bad_column tag = nat_lt (length tag) 20

-- the type of the stages of this way (10.10 lutAToBType, 10.11 lutBToAType)
abbrev pub is_stages : Bool → List ℕ → Bool
is_stages forward tag = type_of tag == stages_type forward

-- whether a fault of stages is that of a curve's type
abbrev pub is_kind : Option PartFault → Bool
is_kind (Some Kind) = true
is_kind (Some Shape) = false
is_kind None = false

-- whether it is one of the shape
abbrev pub is_shape : Option PartFault → Bool
is_shape (Some Kind) = false
is_shape (Some Shape) = true
is_shape None = false

-- Another type than a transform has; one of 8 bits is of the connection space Lab alone (10.9). Of stages it is that of
-- a curve among them.
unfoldable pub is_other_transform : Bool → ℕ → Bool → List ℕ → Bool
is_other_transform forward inputs is_lab tag =
    nat_le 8 (length tag)
    && (if is_stages forward tag then is_kind (stages_fault inputs tag)
    else not (type_of tag == mft2 || (type_of tag == mft1 && is_lab)))

-- other channels than a transform's, or fewer than two grid points
abbrev pub has_bad_grid : ℕ → List ℕ → Bool
has_bad_grid inputs tag =
    not (slice_index tag 8 == inputs) || not (slice_index tag 9 == 3) || nat_lt (slice_index tag 10) 2

-- how many values its lattice has
abbrev pub node_count : ℕ → List ℕ → ℕ
node_count inputs tag = slice_index tag 10 ^ inputs * 3

-- the entries of one input table of a lut of 16 bits
abbrev pub before_count : List ℕ → ℕ
before_count tag = u16_at tag 48

-- the entries of one output table of a lut of 16 bits
abbrev pub after_count : List ℕ → ℕ
after_count tag = u16_at tag 50

-- a count of entries isn't from 2 to 4096
abbrev pub is_bad_count : ℕ → Bool
is_bad_count count = nat_lt count 2 || nat_lt 4096 count

-- the bytes of a lut of 8 bits
abbrev pub mft1_size : ℕ → List ℕ → ℕ
mft1_size inputs tag = 48 + (inputs * 256 + node_count inputs tag + 3 * 256)

-- the bytes of a lut of 16 bits
abbrev pub mft2_size : ℕ → List ℕ → ℕ
mft2_size inputs tag = 52 + 2 * (inputs * before_count tag + node_count inputs tag + 3 * after_count tag)

-- a lut of 8 bits has other channels, or is shorter than its content
unfoldable pub is_bad_mft1 : ℕ → List ℕ → Bool
is_bad_mft1 inputs tag =
    nat_lt (length tag) 48 || has_bad_grid inputs tag || nat_lt (length tag) (mft1_size inputs tag)

-- a lut of 16 bits, likewise, or its tables have a bad count
unfoldable pub is_bad_mft2 : ℕ → List ℕ → Bool
is_bad_mft2 inputs tag =
    nat_lt (length tag) 52 || has_bad_grid inputs tag || is_bad_count (before_count tag)
    || is_bad_count (after_count tag) || nat_lt (length tag) (mft2_size inputs tag)

-- a transform is misshapen
unfoldable pub is_bad_transform : Bool → ℕ → List ℕ → Bool
is_bad_transform forward inputs tag =
    if nat_lt (length tag) 8 then true
    else if is_stages forward tag then is_shape (stages_fault inputs tag)
    else if type_of tag == mft2 then is_bad_mft2 inputs tag
    else is_bad_mft1 inputs tag

-- a tag of 8 bytes or more has another type than its kind has
abbrev pub has_other_type : Content → List ℕ → Bool
has_other_type (Transform forward inputs is_lab) tag = is_other_transform forward inputs is_lab tag
has_other_type Column tag = is_other_column tag
has_other_type Curve tag = curve.has_other_type tag

-- a tag is shorter than its content, or has numbers that its kind hasn't
abbrev pub is_misshapen : Content → List ℕ → Bool
is_misshapen (Transform forward inputs is_lab) tag = is_bad_transform forward inputs tag
is_misshapen Column tag = is_bad_column tag
is_misshapen Curve tag = curve.is_misshapen tag
