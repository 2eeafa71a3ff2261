-- Lattices whose channels have grid points of their own (ICC.1:2010, 10.10.5 CLUT). Values have 16 bits.
use Rattle.std.specs.Prelude.{◌≡◌, ℕ, ◌+◌, ◌-◌, ◌*◌, ◌/◌, ◌%◌, ◌^◌, ◌≤◌, List, [], ◌∷◌, length, slice_index}
use Rattle.icc_tables.specs.Rounded.{rounded}
use Rattle.icc_stages.specs.declared.cells.Axis.{Axis}

-- the values of a point, each with the grid points of its channel
abbrev pub axes_of : List ℕ → List ℕ → List Axis
axes_of grid [] = []
axes_of [] (v ∷ at) = []
axes_of (points ∷ grid) (v ∷ at) = record { points = points; v = v } ∷ axes_of grid at

-- how many points a grid has
abbrev pub point_count : List ℕ → ℕ
point_count [] = 1
point_count (points ∷ grid) = points * point_count grid

-- along each channel there are two grid points or more
abbrev pub HaveCells : List ℕ → Type 0
HaveCells [] = Unit {0}
HaveCells (points ∷ grid) = (2 ≤ points) × HaveCells grid

-- the grid of a point's channels
abbrev pub grid_of : List Axis → List ℕ
grid_of [] = []
grid_of (axis ∷ axes) = axis.points ∷ grid_of axes

-- The sum over all corners of the cell that a point lies in, of weight times node. Along a channel of n grid points
-- the value v lies in cell v * (n - 1) / 65535, and its distance from the cell's ends is the remainder r: the lower
-- end weighs 65535 - r, the upper one r. The weight of a corner is the product of these, its place is counted with
-- the first channel varying least rapidly. `weight` and `place` are those of the channels before.
unfoldable pub cell_sum : List ℕ → ℕ → List Axis → ℕ → ℕ → ℕ
cell_sum nodes output [] weight place = weight * slice_index nodes (place * 3 + output)
cell_sum nodes output (axis ∷ axes) weight place =
    cell_sum nodes output axes (weight * (65535 - axis.v * (axis.points - 1) % 65535))
    (place * axis.points + axis.v * (axis.points - 1) / 65535)
    + cell_sum nodes output axes (weight * (axis.v * (axis.points - 1) % 65535))
    (place * axis.points + axis.v * (axis.points - 1) / 65535 + 1)

-- one value of a lattice at a point: that sum, divided by the sum of all weights and rounded once
unfoldable pub node_value : List ℕ → List Axis → ℕ → ℕ
node_value nodes axes output = rounded (cell_sum nodes output axes 1 0) (65535 ^ length axes)

-- the three values of a lattice at a point
abbrev pub values_of : List ℕ → List Axis → List ℕ
values_of nodes axes = node_value nodes axes 0 ∷ node_value nodes axes 1 ∷ node_value nodes axes 2 ∷ []
