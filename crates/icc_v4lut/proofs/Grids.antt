-- The grid of a lattice: its first bytes, one for each channel.
use Rattle.std.proofs.Common.{◌≡◌, ◌≤◌, ◌*◌, ℕ, List, [], ◌∷◌, ◌++◌, length, take, slice_index, arith}
use Rattle.std.proofs.Common.{refl, sym, false, ◌⊎◌}
use Rattle.std.specs.Prelude.{nat_lt}
use Rattle.std.specs.List.{list_any}
use Rattle.std.proofs.lemmas.Bool.{ltb-false}
use Rattle.icc_power.proofs.Shapes.{or_first, or_second}
use Rattle.icc_stages.specs.Cells.{point_count, HaveCells}

-- the first value
pub take_one : (xs : List ℕ) → 1 ≤ length xs → take 1 xs ≡ slice_index xs 0 ∷ []
take_one [] h = absurd (omega (arith, h))
take_one (a ∷ xs) h = refl

-- the first three
pub take_three : (xs : List ℕ) → 3 ≤ length xs →
    take 3 xs ≡ slice_index xs 0 ∷ slice_index xs 1 ∷ slice_index xs 2 ∷ []
take_three [] h = absurd (omega (arith, h))
take_three (a ∷ []) h = absurd (omega (arith, h))
take_three (a ∷ b ∷ []) h = absurd (omega (arith, h))
take_three (a ∷ b ∷ c ∷ xs) h = refl

-- the first four
pub take_four : (xs : List ℕ) → 4 ≤ length xs →
    take 4 xs ≡ slice_index xs 0 ∷ slice_index xs 1 ∷ slice_index xs 2 ∷ slice_index xs 3 ∷ []
take_four [] h = absurd (omega (arith, h))
take_four (a ∷ []) h = absurd (omega (arith, h))
take_four (a ∷ b ∷ []) h = absurd (omega (arith, h))
take_four (a ∷ b ∷ c ∷ []) h = absurd (omega (arith, h))
take_four (a ∷ b ∷ c ∷ d ∷ xs) h = refl

-- channels are four at most
pub few_channels : (n : ℕ) → (n ≡ 1) ⊎ (n ≡ 3) ⊎ (n ≡ 4) → n ≤ 4
few_channels n h = grind arith

-- the points of a grid, in all
pub count_one : (n : ℕ) (xs : List ℕ) → 20 ≤ length xs → n ≡ slice_index xs 0 → n ≡ point_count (take 1 xs)
count_one n xs h e = rw (take_one xs (omega (arith, h))) (omega (arith, e))

-- the same of three channels
pub count_three : (n : ℕ) (xs : List ℕ) → 20 ≤ length xs →
    n ≡ slice_index xs 0 * (slice_index xs 1 * (slice_index xs 2 * 1)) → n ≡ point_count (take 3 xs)
count_three n xs h e = rw (take_three xs (omega (arith, h))) e

-- the same of four
pub count_four : (n : ℕ) (xs : List ℕ) → 20 ≤ length xs →
    n ≡ slice_index xs 0 * (slice_index xs 1 * (slice_index xs 2 * (slice_index xs 3 * 1))) →
    n ≡ point_count (take 4 xs)
count_four n xs h e = rw (take_four xs (omega (arith, h))) e

-- the places of a grid
pub grid_one : (xs : List ℕ) → 20 ≤ length xs →
    (slice_index xs 0 ∷ 0 ∷ 0 ∷ 0 ∷ []) ≡ take 1 xs ++ 0 ∷ 0 ∷ 0 ∷ []
grid_one xs h = rw (take_one xs (omega (arith, h))) refl

-- the same of three channels
pub grid_three : (xs : List ℕ) → 20 ≤ length xs →
    (slice_index xs 0 ∷ slice_index xs 1 ∷ slice_index xs 2 ∷ 0 ∷ []) ≡ take 3 xs ++ 0 ∷ []
grid_three xs h = rw (take_three xs (omega (arith, h))) refl

-- the same of four
pub grid_four : (xs : List ℕ) → 20 ≤ length xs →
    (slice_index xs 0 ∷ slice_index xs 1 ∷ slice_index xs 2 ∷ slice_index xs 3 ∷ []) ≡ take 4 xs ++ []
grid_four xs h = rw (take_four xs (omega (arith, h))) refl

-- those that count
pub grid_one_taken : (xs : List ℕ) → 20 ≤ length xs → (slice_index xs 0 ∷ []) ≡ take 1 xs
grid_one_taken xs h = sym (take_one xs (omega (arith, h)))

-- the same of three channels
pub grid_three_taken : (xs : List ℕ) → 20 ≤ length xs →
    (slice_index xs 0 ∷ slice_index xs 1 ∷ slice_index xs 2 ∷ []) ≡ take 3 xs
grid_three_taken xs h = sym (take_three xs (omega (arith, h)))

-- the same of four
pub grid_four_taken : (xs : List ℕ) → 20 ≤ length xs →
    (slice_index xs 0 ∷ slice_index xs 1 ∷ slice_index xs 2 ∷ slice_index xs 3 ∷ []) ≡ take 4 xs
grid_four_taken xs h = sym (take_four xs (omega (arith, h)))

-- where no channel has fewer than two grid points, each has cells
pub have_cells : (xs : List ℕ) → list_any (λ points. nat_lt points 2) xs ≡ false → HaveCells xs
have_cells [] h = tt
have_cells (x ∷ xs) h = (
  ltb-false x 2 (or_first (nat_lt x 2) (list_any (λ points. nat_lt points 2) xs) h),
  have_cells xs (or_second (nat_lt x 2) (list_any (λ points. nat_lt points 2) xs) h),
)
