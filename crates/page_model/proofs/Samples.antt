-- Where the samples of an image stand among its codes.
use Rattle.std.proofs.Common.{◌≡◌, ℕ, ◌+◌, ◌*◌, ◌<◌, ◌≤◌, ◌⊎◌, arith}
use Rattle.std.proofs.Math.Nat.{mul-le-mul_left}

-- a sample's number is below the count of all samples
pub is_below_all : (width rows u v : ℕ) → u < width → v < rows → width * v + u < width * rows
is_below_all width rows u v in_row in_column =
    let more : width * (v + 1) ≤ width * rows = mul-le-mul_left width (omega arith) in omega (arith, more)

-- a count of samples is at most that of their codes
pub is_at_most_all : (samples channels : ℕ) → ((channels ≡ 1) ⊎ (channels ≡ 3) ⊎ (channels ≡ 4)) →
    samples ≤ samples * channels
is_at_most_all samples channels count =
    let some : 1 ≤ channels = omega arith in
    let more : samples * 1 ≤ samples * channels = mul-le-mul_left samples some in omega (arith, more)
