-- Tags of stages (ICC.1:2010, 10.10 lutAToBType and 10.11 lutBToAType). Places are counted from the tag's start.
use Rattle.std.specs.Prelude.{ℕ, zero, suc, ◌+◌, ◌*◌, ◌/◌, ◌-◌, ◌==◌, ◌||◌, ◌&&◌, Bool, not, nat_lt, List, [], ◌∷◌}
use Rattle.std.specs.Prelude.{length, take, drop, map, replicate, ◌++◌, slice_index, codes, Option, Some, None, ℤ}
use Rattle.std.specs.Prelude.{if◌then◌else◌}
use Rattle.std.specs.List.{range_with_len, list_any}
use Rattle.byteorder.specs.Endian.{big_number}
use Rattle.icc_tables.specs.Curves.{CurveValue}
use Rattle.icc_tables.specs.Stored.{nodes_of}
use Rattle.icc_tables.specs.declared.nodes.NodeSize.{NodeSize}
use Rattle.icc_tables.specs.declared.nodes.NodeSize.TheVariants.{Widened, Word}
use Rattle.icc_power.specs.CurveTag.{u32_at, s15_at, size_of, has_other_type, is_misshapen, curve_of}
use Rattle.icc_stages.specs.Cells.{point_count}
use Rattle.icc_stages.specs.Stages.{StagesValue, LatticeValue}
use Rattle.icc_stages.specs.declared.stages.MatrixStage.{MatrixStage}
use Rattle.icc_v4lut.specs.declared.faults.PartFault.{PartFault}
use Rattle.icc_v4lut.specs.declared.faults.PartFault.TheVariants.{Kind, Shape}

-- the type of stages to the connection space
abbrev pub mab : ℕ
mab = big_number 4 (codes "mAB ")

-- the type of stages from it
abbrev pub mba : ℕ
mba = big_number 4 (codes "mBA ")

-- the type of stages one way
abbrev pub stages_type : Bool → ℕ
stages_type forward = if forward then mab else mba

-- where the B curves begin; a place of 0 says that a part isn't there
abbrev pub b_at : List ℕ → ℕ
b_at tag = u32_at tag 12

-- where the matrix begins
abbrev pub matrix_at : List ℕ → ℕ
matrix_at tag = u32_at tag 16

-- where the M curves begin
abbrev pub m_at : List ℕ → ℕ
m_at tag = u32_at tag 20

-- where the lattice begins
abbrev pub lattice_at : List ℕ → ℕ
lattice_at tag = u32_at tag 24

-- where the A curves begin
abbrev pub a_at : List ℕ → ℕ
a_at tag = u32_at tag 28

-- where the curve begins that comes after one: at the least multiple of 4 that isn't before the end of that one
abbrev pub after_curve : List ℕ → ℕ → ℕ
after_curve tag at = (at + size_of (drop at tag) + 3) / 4 * 4

-- the fault of one part, else that of those after it
abbrev pub or_later : Option PartFault → Option PartFault → Option PartFault
or_later (Some fault) later = Some fault
or_later None later = later

-- the fault of one curve
unfoldable pub curve_fault : List ℕ → Option PartFault
curve_fault curve =
    if has_other_type curve then Some Kind else if is_misshapen curve then Some Shape else None

-- the first fault of so many curves, one after another from a place on
abbrev pub curves_fault : List ℕ → ℕ → ℕ → Option PartFault
curves_fault tag zero at = None
curves_fault tag (suc count) at =
    or_later (curve_fault (drop at tag)) (curves_fault tag count (after_curve tag at))

-- the curves themselves
abbrev pub curves_of : List ℕ → ℕ → ℕ → List CurveValue
curves_of tag zero at = []
curves_of tag (suc count) at = curve_of (drop at tag) ∷ curves_of tag count (after_curve tag at)

-- a test that is a fault of the shape
abbrev pub shape_if : Bool → Option PartFault
shape_if test = if test then Some Shape else None

-- There are always B curves.
unfoldable pub b_fault : List ℕ → Option PartFault
b_fault tag = if b_at tag == 0 then Some Shape else curves_fault tag 3 (b_at tag)

-- a matrix has twelve numbers
unfoldable pub matrix_fault : List ℕ → Option PartFault
matrix_fault tag = shape_if (not (matrix_at tag == 0) && nat_lt (length tag) (matrix_at tag + 48))

-- M curves and a matrix are there together
unfoldable pub m_fault : List ℕ → Option PartFault
m_fault tag =
    if m_at tag == 0 then shape_if (not (matrix_at tag == 0))
    else if matrix_at tag == 0 then Some Shape
    else curves_fault tag 3 (m_at tag)

-- The grid points of a lattice stand in its first 16 bytes, then come the bytes of a value, 1 or 2, and three of
-- padding. Own rule: bytes of the grid past the channels aren't looked at.
abbrev pub grid_of : ℕ → List ℕ → List ℕ
grid_of inputs lattice = take inputs lattice

-- the bytes of a value
abbrev pub precision : List ℕ → ℕ
precision lattice = slice_index lattice 16

-- how many values it has
abbrev pub node_count : ℕ → List ℕ → ℕ
node_count inputs lattice = point_count (grid_of inputs lattice) * 3

-- a lattice is misshapen
unfoldable pub is_bad_lattice : ℕ → List ℕ → Bool
is_bad_lattice inputs lattice =
    nat_lt (length lattice) 20
    || list_any (λ points. nat_lt points 2) (grid_of inputs lattice)
    || not (precision lattice == 1 || precision lattice == 2)
    || nat_lt (length lattice) (20 + precision lattice * node_count inputs lattice)

-- A lattice and A curves are there together; without them no channel comes or goes.
unfoldable pub lattice_fault : ℕ → List ℕ → Option PartFault
lattice_fault inputs tag =
    if lattice_at tag == 0 then shape_if (not (a_at tag == 0) || not (inputs == 3))
    else if a_at tag == 0 then Some Shape
    else shape_if (is_bad_lattice inputs (drop (lattice_at tag) tag))

-- there are as many A curves as input channels: from the connection space these are three, as the outputs
unfoldable pub a_fault : ℕ → List ℕ → Option PartFault
a_fault inputs tag = if a_at tag == 0 then None else curves_fault tag inputs (a_at tag)

-- other channels than a transform has
abbrev pub has_other_channels : ℕ → List ℕ → Bool
has_other_channels inputs tag = not (slice_index tag 8 == inputs) || not (slice_index tag 9 == 3)

-- The first fault that a walk over the parts meets, in the order B curves, matrix, M curves, lattice, A curves.
unfoldable pub stages_fault : ℕ → List ℕ → Option PartFault
stages_fault inputs tag =
    if nat_lt (length tag) 32 then Some Shape
    else if has_other_channels inputs tag then Some Shape
    else or_later (b_fault tag) (or_later (matrix_fault tag) (or_later (m_fault tag)
    (or_later (lattice_fault inputs tag) (a_fault inputs tag))))

-- the twelve numbers of a matrix, in 1/65536
abbrev pub matrix_of : List ℕ → ℕ → List ℤ
matrix_of tag at = map (λ k. s15_at tag (at + 4 * k)) (range_with_len 0 12)

-- the matrix with its curves
abbrev pub matrix_stage : List ℕ → Option MatrixStage
matrix_stage tag =
    if matrix_at tag == 0 then None
    else Some (record { matrix = matrix_of tag (matrix_at tag); curves = curves_of tag 3 (m_at tag) })

-- a value of one byte is 257 times as great in 16 bits
abbrev pub size_by : ℕ → NodeSize
size_by bytes = if bytes == 2 then Word else Widened

-- the lattice with its curves; places that aren't used are 0, and curves the identity
abbrev pub lattice_from : ℕ → List ℕ → ℕ → ℕ → LatticeValue
lattice_from inputs tag at curves = record {
  inputs = inputs;
  grid = grid_of inputs (drop at tag) ++ replicate (4 - inputs) 0;
  nodes = nodes_of (size_by (precision (drop at tag))) tag (at + 20) (node_count inputs (drop at tag));
  curves = curves_of tag inputs curves ++ replicate (4 - inputs) None;
}

-- such a lattice, where it is there
abbrev pub lattice_stage : ℕ → List ℕ → Option LatticeValue
lattice_stage inputs tag =
    if lattice_at tag == 0 then None else Some (lattice_from inputs tag (lattice_at tag) (a_at tag))

-- what a tag without a fault is
unfoldable pub stages_of : Bool → ℕ → List ℕ → StagesValue
stages_of forward inputs tag = record {
  forward = forward;
  inputs = inputs;
  b = curves_of tag 3 (b_at tag);
  matrix = matrix_stage tag;
  lattice = lattice_stage inputs tag;
}
