-- Powers, which parametric curves need (ICC.1:2010, 10.16 parametricCurveType, leaves open how one is worked out).
-- Own rule: a power is two to the exponent times the logarithm to base two, by whole numbers alone and rounded down at
-- each step, so that every machine agrees. Numbers count 1/U, U = 2^32, but for exponents, in 1/65536.
use Rattle.std.specs.Prelude.{ℕ, zero, suc, ◌+◌, ◌-◌, ◌*◌, ◌/◌, ◌^◌, nat_le, nat_lt, List, [], ◌∷◌, ℤ, pos}
use Rattle.std.specs.Prelude.{negsuc}
use Rattle.std.specs.Prelude.{◌+ℤ◌, ◌-ℤ◌, ◌*ℤ◌, unsigned_abs, int_le, if◌then◌else◌}
use Rattle.std.specs.Int.{int_div_euclid}
use Rattle.press_nums.specs.Rounding.{div_round}
use Rattle.press_nums.specs.Roots.{greatest, root}

-- the square of a number
abbrev pub squared : ℕ → ℕ
squared m = m * m / 2 ^ 32

-- The binary places of the logarithm of m, from 1 up to and without 2, as one whole number. A square has twice the
-- logarithm: where it is 2 or more the next place is 1, and the square is halved.
unfoldable pub log_places : ℕ → ℕ → ℕ
log_places zero m = 0
log_places (suc places) m =
    (if nat_le (2 ^ 33) (squared m) then 2 ^ places else 0)
    + log_places places (if nat_le (2 ^ 33) (squared m) then squared m / 2 else squared m)

-- the greatest n with 2^n ≤ y
unfoldable pub exponent : ℕ → ℕ
exponent y = greatest (λ n. nat_le (2 ^ n) y) y

-- the logarithm to base two of a positive number, with 32 binary places
unfoldable pub log2 : ℕ → ℤ
log2 y =
    (pos (exponent y) -ℤ pos 32) *ℤ pos (2 ^ 32)
    +ℤ pos (log_places 32 (y * 2 ^ 32 / 2 ^ exponent y))

-- square roots, each of the one before: of s, of its root, and so on
unfoldable pub roots_of : ℕ → ℕ → List ℕ
roots_of zero s = []
roots_of (suc count) s = root 2 (s * 2 ^ 32) ∷ roots_of count (root 2 (s * 2 ^ 32))

-- the roots of two of the orders 2, 4, 8 up to 2^32: two to the power of each binary place
unfoldable pub two_roots : List ℕ
two_roots = roots_of 32 (2 ^ 33)

-- r times the roots at whose binary places a fraction has 1; the first place is 1 where twice the fraction is 1 or more
unfoldable pub raised : List ℕ → ℕ → ℕ → ℕ
raised [] fraction r = r
raised (s ∷ roots) fraction r =
    raised roots (if nat_le (2 ^ 32) (2 * fraction) then 2 * fraction - 2 ^ 32 else 2 * fraction)
    (if nat_le (2 ^ 32) (2 * fraction) then r * s / 2 ^ 32 else r)

-- r times two to a whole power, and 2^64 from the power 32 on
abbrev pub scaled : ℤ → ℕ → ℕ
scaled (pos q) r = if nat_lt 31 q then 2 ^ 64 else r * 2 ^ q
scaled (negsuc q) r = r / 2 ^ suc q

-- the whole part of a number, rounded down
abbrev pub whole_part : ℤ → ℤ
whole_part e = int_div_euclid e (pos (2 ^ 32))

-- what a number is above its whole part
abbrev pub fraction_of : ℤ → ℕ
fraction_of e = unsigned_abs (e -ℤ whole_part e *ℤ pos (2 ^ 32))

-- two to a power
unfoldable pub exp2 : ℤ → ℕ
exp2 e = scaled (whole_part e) (raised two_roots (fraction_of e) (2 ^ 32))

-- y to the power of g / 65536, for a positive g; 0 where y isn't positive
unfoldable pub power : ℤ → ℤ → ℕ
power y g =
    if int_le y (pos 0) then 0 else exp2 (div_round (g *ℤ log2 (unsigned_abs y)) (pos 65536))
