-- Sums over the corners of a cell whose channels have grid points of their own: how great they get, and where their
-- nodes stand.
use Rattle.std.proofs.Common.{◌≡◌, ℕ, zero, suc, ◌+◌, ◌-◌, ◌*◌, ◌/◌, ◌%◌, ◌^◌, ◌<◌, ◌≤◌, List, [], ◌∷◌, length}
use Rattle.std.proofs.Common.{slice_index, arith, sym, ap, subst, ◌∙◌, lit<}
use Rattle.std.proofs.Math.Nat.{mul-le-mul, pow-zero, pow-le-pow_right}
use Rattle.icc_tables.specs.Lattice.{AreAtMost, AreSmall, SumsValue}
use Rattle.icc_tables.proofs.Corners.{next_power, parts, split_weight}
use Rattle.icc_stages.specs.Cells.{cell_sum, point_count, HaveCells, grid_of}
use Rattle.icc_stages.specs.declared.cells.Axis.{Axis}

-- the lower and the upper weight along a channel
abbrev pub lower : Axis → ℕ
lower axis = 65535 - axis.v * (axis.points - 1) % 65535

abbrev pub upper : Axis → ℕ
upper axis = axis.v * (axis.points - 1) % 65535

-- the place of the lower end of a cell
abbrev pub place_of : Axis → ℕ → ℕ
place_of axis p = p * axis.points + axis.v * (axis.points - 1) / 65535

-- the sum of the weights is that of one corner for the channels before, times the greatest value for each one left
pub cell_most : (nodes : List ℕ) (output : ℕ) (axes : List Axis) (w p m : ℕ) → AreAtMost m nodes →
    cell_sum nodes output axes w p ≤ w * 65535 ^ length axes * m
unfolding cell_sum
cell_most nodes output [] w p m f =
    let node = mul-le-mul {n₁ = w} {m₁ = slice_index nodes (p * 3 + output)} {n₂ = w} {m₂ = m} (omega arith)
    (f (p * 3 + output)) in
    rw (pow-zero 65535) (omega (arith, node))
cell_most nodes output (axis ∷ axes) w p m f =
    let low = cell_most nodes output axes (w * lower axis) (place_of axis p) m f in
    let high = cell_most nodes output axes (w * upper axis) (place_of axis p + 1) m f in
    let whole = subst (λ (z : ℕ). w * lower axis * 65535 ^ length axes * m + w * upper axis * 65535 ^ length axes * m
    ≡ w * (65535 ^ length axes * z) * m)
    (parts 65535 (axis.v * (axis.points - 1)) (omega arith)) (split_weight w (lower axis) (upper axis)
    (65535 ^ length axes) m) in
    let both : cell_sum nodes output axes (w * lower axis) (place_of axis p)
    + cell_sum nodes output axes (w * upper axis) (place_of axis p + 1) ≤ w * (65535 ^ length axes * 65535) * m
    = omega (arith, low, high, whole) in
    rw (next_power 65535 (length axes)) both

-- corners of weight 0 add nothing
pub no_cell : (nodes : List ℕ) (output : ℕ) (axes : List Axis) (w p : ℕ) → w ≡ 0 →
    0 ≡ cell_sum nodes output axes w p
unfolding cell_sum
no_cell nodes output [] w p h = rw h (omega arith)
no_cell nodes output (axis ∷ axes) w p h =
    let low = no_cell nodes output axes (w * lower axis) (place_of axis p) (rw h (omega arith)) in
    let high = no_cell nodes output axes (w * upper axis) (place_of axis p + 1) (rw h (omega arith)) in
    let both : 0 ≡ cell_sum nodes output axes (w * lower axis) (place_of axis p)
    + cell_sum nodes output axes (w * upper axis) (place_of axis p + 1) = omega (arith, low, high) in both

-- a grid has a point
pub points_some : (grid : List ℕ) → HaveCells grid → 1 ≤ point_count grid
points_some [] h = omega arith
points_some (points ∷ grid) h =
    let rest = points_some grid h.1 in
    let all = mul-le-mul {n₁ = 1} {m₁ = 1} {n₂ = points} {m₂ = point_count grid} (let two = h.0 in omega (arith, two))
    rest in
    omega (arith, all)

-- with one channel more, the nodes up to a place still fit the count
pub place_fits : (p g k n m : ℕ) → k < g → (p + 1) * (g * n) * 3 ≤ m → (p * g + k + 1) * n * 3 ≤ m
place_fits p g k n m h f =
    let one : p * g + k + 1 ≤ (p + 1) * g = omega (arith, h) in
    let all = mul-le-mul {n₁ = p * g + k + 1} {m₁ = n} {n₂ = (p + 1) * g} {m₂ = n} one (omega arith) in
    omega (arith, f, all)

-- a place in one channel more, counted from 1, is itself at most the count
pub place_small : (p g k n m : ℕ) → 1 ≤ n → k < g → (p + 1) * (g * n) * 3 ≤ m → p * g + k + 1 ≤ m
place_small p g k n m some h f =
    let e = place_fits p g k n m h f in
    let more = mul-le-mul {n₁ = p * g + k + 1} {m₁ = 1} {n₂ = p * g + k + 1} {m₂ = n} (omega arith) some in
    omega (arith, e, more)

-- no sum of up to four channels passes the greatest weight times the greatest value
cell_small : (nodes : List ℕ) (output : ℕ) (axes : List Axis) (w p : ℕ) → AreAtMost 65535 nodes →
    w * 65535 ^ length axes ≤ 65535 ^ 4 → cell_sum nodes output axes w p ≤ 65535 ^ 5
cell_small nodes output axes w p f g =
    let most = cell_most nodes output axes w p 65535 f in omega (arith, most, g)

-- three sums over corners are small where their weight, with a greatest value for each channel left, is of four
pub sums_small : (nodes : List ℕ) (axes : List Axis) (w p : ℕ) (s : SumsValue) → AreAtMost 65535 nodes →
    w * 65535 ^ length axes ≤ 65535 ^ 4 → s.first ≡ cell_sum nodes 0 axes w p → s.second ≡ cell_sum nodes 1 axes w p →
    s.third ≡ cell_sum nodes 2 axes w p → AreSmall s
sums_small nodes axes w p s h g a b c = record {
  first = subst (λ (z : ℕ). z ≤ 65535 ^ 5) (sym a) (cell_small nodes 0 axes w p h g);
  second = subst (λ (z : ℕ). z ≤ 65535 ^ 5) (sym b) (cell_small nodes 1 axes w p h g);
  third = subst (λ (z : ℕ). z ≤ 65535 ^ 5) (sym c) (cell_small nodes 2 axes w p h g);
}

-- no sum over all corners passes the greatest value times the sum of their weights
pub whole_most : (nodes : List ℕ) (output : ℕ) (axes : List Axis) (s : ℕ) → AreAtMost 65535 nodes →
    s ≡ cell_sum nodes output axes 1 0 → s ≤ 65535 * 65535 ^ length axes
whole_most nodes output axes s h e =
    let most = cell_most nodes output axes 1 0 65535 h in omega (arith, most, e)
