-- One-dimensional curves (ICC.1:2010, 10.5 curveType; the tables of 10.8 lut16Type are read alike).
use Rattle.std.specs.Prelude.{ℕ, zero, suc, ◌+◌, ◌-◌, ◌*◌, ◌/◌, ◌%◌, ◌≤◌, ◌<◌, Bool, nat_le, List, length, slice_index}
use Rattle.std.specs.Prelude.{Option, Some, None, if◌then◌else◌}
use Rattle.icc_tables.specs.Rounded.{rounded}

-- A curve: its entries, of 16 bits and at equal steps from 0 to 65535; none for the identity (a count of 0).
abbrev pub CurveValue : Type 0
CurveValue = Option (List ℕ)

-- a curve with entries has from 2 to 65536 of them. Own rules: no curve has more, and one entry alone, an exponent,
-- is no curve here
abbrev pub IsCurve : CurveValue → Type 0
IsCurve (Some entries) = (2 ≤ length entries) × (length entries ≤ 65536)
IsCurve None = Unit {0}

-- The value at v, from 0 to 65535, of the table of `count` entries that begins at the place `from`: linear between
-- the two entries next to v * (count - 1) / 65535, rounded once. At an entry itself the second product is 0.
unfoldable pub table_value : List ℕ → ℕ → ℕ → ℕ → ℕ
table_value entries from count v =
    rounded (slice_index entries (from + v * (count - 1) / 65535) * (65535 - v * (count - 1) % 65535)
    + slice_index entries (from + v * (count - 1) / 65535 + 1) * (v * (count - 1) % 65535)) 65535

-- the value of a curve at v
unfoldable pub curve_at : CurveValue → ℕ → ℕ
curve_at None v = v
curve_at (Some entries) v = table_value entries 0 (length entries) v

-- the least number below `most` that passes, else `most`
unfoldable pub least : (ℕ → Bool) → ℕ → ℕ
least passes zero = zero
least passes (suc most) = if passes zero then zero else suc (least (λ n. passes (suc n)) most)

-- A curve read backwards (the inverse of Annex F): the least code from 0 to 65535 whose value is at least v, else
-- 65535.
-- Own rule: the standard leaves open what a curve gives back that falls, is flat, or doesn't reach v.
unfoldable pub curve_back : CurveValue → ℕ → ℕ
curve_back curve v = least (λ code. nat_le v (curve_at curve code)) 65535

-- no entry is below the one before it
abbrev pub IsRising : CurveValue → Type 0
IsRising (Some entries) = (k : ℕ) → k + 1 < length entries → slice_index entries k ≤ slice_index entries (k + 1)
IsRising None = Unit {0}
