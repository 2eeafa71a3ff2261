-- The integers of a program (PostScript Language Reference, third edition, 3.3 Data Types and Objects).
-- Own rule: an integer has 32 bits, so the range doesn't depend on the machine.
use Rattle.std.specs.Prelude.{ℕ, ℤ, pos, negsuc, ◌-ℤ◌, ◌≤ℤ◌, ◌<ℤ◌, ◌^◌, ◌-◌, ◌==◌, ◌&&◌, unsigned_abs, int_le, int_lt}
use Rattle.std.specs.Prelude.{int_div, int_rem, nat_lt, Bool, Option, Some, None, if◌then◌else◌}
use Rattle.std.specs.Int.{int_rem_euclid}

-- an integer of a program: from -2^31 to 2^31 - 1
abbrev pub IsWhole : ℤ → Type 0
IsWhole n = (negsuc (2 ^ 31 - 1) ≤ℤ n) × (n <ℤ pos (2 ^ 31))

-- whether a number is an integer of a program
abbrev pub is_whole : ℤ → Bool
is_whole n = int_le (negsuc (2 ^ 31 - 1)) n && int_lt n (pos (2 ^ 31))

-- the integer that a whole number is, if it is one
abbrev pub whole_of : ℤ → Option ℤ
whole_of n = if is_whole n then Some n else None

-- the quotient, truncated to zero; none by zero and out of range
abbrev pub whole_quotient_of : ℤ → ℤ → Option ℤ
whole_quotient_of n d = if unsigned_abs d == 0 then None else whole_of (int_div n d)

-- what that division leaves, with the sign of the dividend; there is none by zero
abbrev pub whole_rest_of : ℤ → ℤ → Option ℤ
whole_rest_of n d = if unsigned_abs d == 0 then None else whole_of (int_rem n d)

-- the 32 bits of an integer as an unsigned number: its value modulo 2^32
abbrev pub bits_of : ℤ → ℕ
bits_of n = unsigned_abs (int_rem_euclid n (pos (2 ^ 32)))

-- the integer of 32 bits: the one of that value modulo 2^32
abbrev pub whole_of_bits : ℕ → ℤ
whole_of_bits bits = if nat_lt bits (2 ^ 31) then pos bits else pos bits -ℤ pos (2 ^ 32)
