-- What operators read off the numbers of a program (PostScript Language Reference, third edition, 3.3 Data Types and
-- Objects).
use Rattle.std.specs.Prelude.{ℕ, ℤ, Option, Some, None, pos, int_le, ◌&&◌, unsigned_abs, nat_lt, if◌then◌else◌, ◌*ℤ◌}
use Rattle.ps_store.specs.declared.obj.Obj.{Obj}
use Rattle.ps_store.specs.declared.obj.Obj.TheVariants.{Int, Real}

-- the byte that an integer is, from 0 to 255, else 0
abbrev pub byte_of : ℤ → ℕ
byte_of z = if int_le (pos 0) z && int_le z (pos 255) then unsigned_abs z else 0

-- the place, from 0, in so many that an integer is, else none
abbrev pub place_of : ℤ → ℕ → Option ℕ
place_of z len = if int_le (pos 0) z && nat_lt (unsigned_abs z) len then Some (unsigned_abs z) else None

-- the raw value of an integer, its count of 1/65536
abbrev pub raw_of_whole : ℤ → ℤ
raw_of_whole n = n *ℤ pos 65536

-- the raw value of the number that an object is, none where it is no number
abbrev pub raw_of : Obj → Option ℤ
raw_of (Int n) = Some (raw_of_whole n)
raw_of (Real raw) = Some raw
raw_of o = None
