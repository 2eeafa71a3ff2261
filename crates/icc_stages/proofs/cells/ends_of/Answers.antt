use Rattle.std.proofs.Common.{◌≡◌, suc, arith, sym, subst, ℕ, ◌+◌, ◌-◌, ◌*◌, ◌<◌, ◌≤◌, length}
use Rattle.icc_tables.proofs.Corners.{weight_fits, weight_small, some_distance}
use Rattle.icc_stages.specs.Cells.{point_count, grid_of}
use Rattle.icc_stages.proofs.Corners.{place_fits, place_small, points_some}
use Rattle.icc_stages.proofs.cells.ends_of.Goals as goal

pub overflow_mul-result : goal.overflow_mul-result
overflow_mul-result c = omega (
  arith,
  weight_small c.args.weight (65535 - c.cell_of-cell.result.distance) (length c.args.left.now) _ (omega arith)
      c.requires.weight,
)

pub overflow_mul-result-2 : goal.overflow_mul-result-2
overflow_mul-result-2 c = omega (
  arith,
  weight_small c.args.weight c.cell_of-cell.result.distance (length c.args.left.now) _
      (omega (arith, c.cell_of-cell.ensures.near)) c.requires.weight,
)

-- a place along the grid is one of the lattice's
low_of : (p g h k n m : ℕ) → h ≡ g → 1 ≤ n → k < h → (p + 1) * (g * n) * 3 ≤ m → p * h + k + 1 ≤ m
low_of p g h k n m e some l f = subst (λ (z : ℕ). p * z + k + 1 ≤ m) (sym e)
    (place_small p g k n m some (subst (λ (z : ℕ). k < z) e l) f)

fits_of : (p g h k n m : ℕ) → h ≡ g → k < h → (p + 1) * (g * n) * 3 ≤ m → (p * h + k + 1) * n * 3 ≤ m
fits_of p g h k n m e l f = subst (λ (z : ℕ). (p * z + k + 1) * n * 3 ≤ m) (sym e)
    (place_fits p g k n m (subst (λ (z : ℕ). k < z) e l) f)

above_of : (p g h k n m : ℕ) → h ≡ g → k + 1 < h → (p + 1) * (g * n) * 3 ≤ m → (p * h + k + 1 + 1) * n * 3 ≤ m
above_of p g h k n m e l f = subst (λ (z : ℕ). (z + 1) * n * 3 ≤ m) (omega arith) (fits_of p g h (k + 1) n m e l f)

pub overflow_mul-result-3 : goal.overflow_mul-result-3
overflow_mul-result-3 c = omega (
  arith,
  low_of c.args.place _ c.grid_of-grid.result c.cell_of-cell.result.first (point_count (grid_of c.args.left.now)) _
      c.grid_of-grid.ensures.value (points_some (grid_of c.args.left.now) c.requires.left)
      c.cell_of-cell.ensures.inside c.requires.place,
  c.node_count-count.ensures,
)

pub overflow_add-result : goal.overflow_add-result
overflow_add-result c = omega (
  arith,
  low_of c.args.place _ c.grid_of-grid.result c.cell_of-cell.result.first (point_count (grid_of c.args.left.now)) _
      c.grid_of-grid.ensures.value (points_some (grid_of c.args.left.now) c.requires.left)
      c.cell_of-cell.ensures.inside c.requires.place,
  c.node_count-count.ensures,
)

pub returns-clause-low_fits : goal.returns-clause-low_fits
returns-clause-low_fits c = weight_fits c.args.weight (65535 - c.cell_of-cell.result.distance)
    (length c.args.left.now) _ (omega arith) c.requires.weight

pub returns-clause-high_fits : goal.returns-clause-high_fits
returns-clause-high_fits c = weight_fits c.args.weight c.cell_of-cell.result.distance (length c.args.left.now) _
    (omega (arith, c.cell_of-cell.ensures.near)) c.requires.weight

pub returns-clause-low_place : goal.returns-clause-low_place
returns-clause-low_place c = fits_of c.args.place _ c.grid_of-grid.result c.cell_of-cell.result.first
    (point_count (grid_of c.args.left.now)) _ c.grid_of-grid.ensures.value c.cell_of-cell.ensures.inside
    c.requires.place

pub returns-clause-high_place : goal.returns-clause-high_place
returns-clause-high_place c = λ s. above_of c.args.place _ c.grid_of-grid.result c.cell_of-cell.result.first
    (point_count (grid_of c.args.left.now)) _ c.grid_of-grid.ensures.value
    (c.cell_of-cell.ensures.next (some_distance c.args.weight _ s)) c.requires.place

pub returns-clause-next : goal.returns-clause-next
returns-clause-next c = omega (
  arith,
  low_of c.args.place _ c.grid_of-grid.result c.cell_of-cell.result.first (point_count (grid_of c.args.left.now)) _
      c.grid_of-grid.ensures.value (points_some (grid_of c.args.left.now) c.requires.left)
      c.cell_of-cell.ensures.inside c.requires.place,
  c.node_count-count.ensures,
)
