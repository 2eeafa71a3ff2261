-- Sums and products that fit 63 bits. Own rule: all signed arithmetic is exact, and a caller shows that it fits.
use Rattle.std.specs.Prelude.{ℤ, ◌<◌, ◌^◌, ◌+◌, ◌*◌, unsigned_abs}

-- what a sum asks: its two magnitudes add up to less than 2^63
abbrev pub FitsSum : ℤ → ℤ → Type 0
FitsSum a b = unsigned_abs a + unsigned_abs b < 2 ^ 63

-- what a product asks: its two magnitudes multiply to less than 2^63
abbrev pub FitsProduct : ℤ → ℤ → Type 0
FitsProduct a b = unsigned_abs a * unsigned_abs b < 2 ^ 63
