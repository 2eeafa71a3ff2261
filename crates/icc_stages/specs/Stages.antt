-- The stages of a transform of version 4 (ICC.1:2010, 10.10 lutAToBType, to the connection space, and 10.11
-- lutBToAType, from it). All values have 16 bits.
use Rattle.std.specs.Prelude.{◌≡◌, ℕ, ◌+◌, ◌*◌, ◌≤◌, ◌⊎◌, Bool, true, false, List, [], ◌∷◌, length, take, slice_index}
use Rattle.std.specs.Prelude.{slice_index_or, Option, Some, None, ℤ}
use Rattle.std.specs.Prelude.{pos, ◌+ℤ◌, ◌*ℤ◌, unsigned_abs, if◌then◌else◌, IfSome}
use Rattle.press_nums.specs.Rounding.{div_round}
use Rattle.icc_tables.specs.Rounded.{clamped}
use Rattle.icc_tables.specs.Curves.{CurveValue, curve_at}
use Rattle.icc_tables.specs.Lattice.{AreAtMost}
use Rattle.icc_stages.specs.Cells.{axes_of, point_count, HaveCells, values_of}
use Rattle.icc_stages.specs.declared.stages.MatrixStage.{MatrixStage}

-- A lattice with its curves, which stand on its other side: the input channels; grid points along each; nodes, of
-- which the first channel varies least rapidly; the A curves.
pub record LatticeValue : Type 0 where
  pub inputs : ℕ
  pub grid : List ℕ
  pub nodes : List ℕ
  pub curves : List CurveValue

-- The stages of a transform: whether it leads to the connection space; its input channels; the B curves; the matrix
-- with the M curves and the lattice with the A curves, where they are there. Own rule: it has three outputs.
pub record StagesValue : Type 0 where
  pub forward : Bool
  pub inputs : ℕ
  pub b : List CurveValue
  pub matrix : Option MatrixStage
  pub lattice : Option LatticeValue

-- each value through the curve of its channel
abbrev pub through_curves : List CurveValue → List ℕ → List ℕ
through_curves curves [] = []
through_curves [] (v ∷ at) = []
through_curves (curve ∷ curves) (v ∷ at) = curve_at curve v ∷ through_curves curves at

-- an element of a matrix
abbrev pub element : List ℤ → ℕ → ℤ
element matrix k = slice_index_or matrix k (pos 0)

-- One row of a matrix (10.10.3): three numbers of nine, by rows, times the values, and one of the three after these,
-- which is added; all in 1/65536.
abbrev pub row_value : List ℤ → ℕ → List ℕ → ℕ
row_value matrix k at =
    unsigned_abs (clamped (pos 0) (pos 65535) (div_round
    (element matrix (3 * k) *ℤ pos (slice_index at 0) +ℤ element matrix (3 * k + 1) *ℤ pos (slice_index at 1)
    +ℤ element matrix (3 * k + 2) *ℤ pos (slice_index at 2) +ℤ element matrix (9 + k) *ℤ pos 65535) (pos 65536)))

-- the three rows
abbrev pub matrix_value : List ℤ → List ℕ → List ℕ
matrix_value matrix at = row_value matrix 0 at ∷ row_value matrix 1 at ∷ row_value matrix 2 at ∷ []

-- M curves and then the matrix, where they are there
abbrev pub curves_matrix : Option MatrixStage → List ℕ → List ℕ
curves_matrix None at = at
curves_matrix (Some stage) at = matrix_value stage.matrix (through_curves stage.curves at)

-- the other way
abbrev pub matrix_curves : Option MatrixStage → List ℕ → List ℕ
matrix_curves None at = at
matrix_curves (Some stage) at = through_curves stage.curves (matrix_value stage.matrix at)

-- the lattice at a point
abbrev pub lattice_value : LatticeValue → List ℕ → List ℕ
lattice_value stage at = values_of stage.nodes (axes_of stage.grid at)

-- A curves and then the lattice, where they are there
abbrev pub curves_lattice : Option LatticeValue → List ℕ → List ℕ
curves_lattice None at = at
curves_lattice (Some stage) at = lattice_value stage (through_curves stage.curves at)

-- the other way
abbrev pub lattice_curves : Option LatticeValue → List ℕ → List ℕ
lattice_curves None at = at
lattice_curves (Some stage) at = through_curves stage.curves (lattice_value stage at)

-- The three values that stages give: A curves, lattice, M curves, matrix and B curves to the connection space (10.10,
-- figure 9), and B curves, matrix, M curves, lattice and A curves from it (10.11, figure 10).
unfoldable pub stages_at : StagesValue → List ℕ → List ℕ
stages_at stages at =
    if stages.forward then through_curves stages.b (curves_matrix stages.matrix (curves_lattice stages.lattice at))
    else lattice_curves stages.lattice (matrix_curves stages.matrix (through_curves stages.b at))

-- what each lattice keeps
pub record IsLattice (stage : LatticeValue) : Type 0 where
  pub channels : (stage.inputs ≡ 1) ⊎ (stage.inputs ≡ 3) ⊎ (stage.inputs ≡ 4)
  pub cells : HaveCells (take stage.inputs stage.grid)
  pub nodes : length stage.nodes ≡ point_count (take stage.inputs stage.grid) * 3
  pub values : AreAtMost 65535 stage.nodes

-- what stages keep: without a lattice no channel may come or go, and those from the connection space have three
pub record IsStages (stages : StagesValue) : Type 0 where
  pub channels : (stages.inputs ≡ 1) ⊎ (stages.inputs ≡ 3) ⊎ (stages.inputs ≡ 4)
  pub lattice : IfSome stages.lattice (λ lattice. lattice.inputs ≡ stages.inputs)
  pub three : stages.lattice ≡ None → stages.inputs ≡ 3
  pub backward : stages.forward ≡ false → stages.inputs ≡ 3
