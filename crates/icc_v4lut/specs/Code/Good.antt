-- Words of the code alone: what stages have whose walk over the parts meets no fault.
use Rattle.std.specs.Prelude.{◌≡◌, ◌≤◌, ◌⊎◌, ℕ, ◌+◌, ◌*◌, List, length, take, None}
use Rattle.icc_stages.specs.Cells.{HaveCells}
use Rattle.icc_v4lut.specs.StagesTag.{b_fault, matrix_fault, m_fault, lattice_fault, a_fault, precision, node_count}

-- none of the parts has a fault
pub record AreGood (inputs : ℕ) (tag : List ℕ) : Type 0 where
  pub long : 32 ≤ length tag
  pub b : b_fault tag ≡ None
  pub matrix : matrix_fault tag ≡ None
  pub m : m_fault tag ≡ None
  pub lattice : lattice_fault inputs tag ≡ None
  pub a : a_fault inputs tag ≡ None

-- what a lattice is that isn't bad
pub record IsGoodLattice (inputs : ℕ) (lattice : List ℕ) : Type 0 where
  pub long : 20 ≤ length lattice
  pub cells : HaveCells (take inputs lattice)
  pub size_known : (precision lattice ≡ 1) ⊎ (precision lattice ≡ 2)
  pub whole : 20 + precision lattice * node_count inputs lattice ≤ length lattice
