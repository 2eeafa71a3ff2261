-- Rows of bands.
use Rattle.std.proofs.Common.{◌≡◌, ℕ, ◌+◌, ◌-◌, ◌*◌, ◌<◌, ◌≤◌, arith}
use Rattle.std.specs.Prelude.{min, ◌/◌}
use Rattle.std.proofs.Math.Nat.{le-div_iff_mul-le, add-mul}
use Rattle.page_model.specs.Pages.{band_count, rows_of_band}

-- the rows of a band and those before it
next_band : (rows band : ℕ) → (band + 1) * rows ≡ band * rows + rows
next_band rows band = let e = add-mul band 1 rows in omega (arith, e)

-- a band of a page begins above its end
pub band_begins : (height rows band : ℕ) → 0 < rows → band < band_count height rows → band * rows < height
band_begins height rows band some less =
    let upto : band + 1 ≤ (height + rows - 1) / rows = omega (arith, less) in
    let e : (band + 1) * rows ≤ height + rows - 1 = (le-div_iff_mul-le some).0 upto in
    let f = next_band rows band in
    omega (arith, e, f, some)

-- how many rows a band has, by its first
pub rows_are : (height rows band first : ℕ) → first ≡ band * rows → first < height
    → min rows (height - first) ≡ rows_of_band height rows band
rows_are height rows band first is inside = let f = next_band rows band in omega (arith, f, is, inside)
