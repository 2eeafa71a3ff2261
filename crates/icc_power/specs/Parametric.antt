-- Parametric curves (ICC.1:2010, 10.16 parametricCurveType). Own rules: where the standard's function of type 4 adds a
-- number to the power it is the parameter e, and the number added to the line is f; the values are worked out as in
-- Power, and rounded once to 16 bits.
use Rattle.std.specs.Prelude.{◌≡◌, ◌≤◌, ℕ, Bool, ◌*◌, ◌^◌, ◌==◌, List, slice_index_or, map, ℤ, pos}
use Rattle.std.specs.Prelude.{◌+ℤ◌}
use Rattle.std.specs.Prelude.{◌*ℤ◌, ◌<ℤ◌, unsigned_abs, int_lt, if◌then◌else◌, Some}
use Rattle.std.specs.List.{range_with_len}
use Rattle.press_nums.specs.Rounding.{div_round}
use Rattle.press_nums.specs.Whole.{IsWhole}
use Rattle.icc_tables.specs.Rounded.{rounded, clamped}
use Rattle.icc_tables.specs.Curves.{CurveValue}
use Rattle.icc_power.specs.Power.{power}

-- The parameters, in 1/65536: Y = (aX + b)^g + e where X is d or more, else Y = cX + f. X and Y lie from 0 to 1.
pub record ParametricValue : Type 0 where
  pub g : ℤ
  pub a : ℤ
  pub b : ℤ
  pub c : ℤ
  pub d : ℤ
  pub e : ℤ
  pub f : ℤ

-- how many parameters a function type has
abbrev pub parameter_count : ℕ → ℕ
parameter_count kind =
    if kind == 0 then 1 else if kind == 1 then 3 else if kind == 2 then 4 else if kind == 3 then 5 else 7

-- the parameter of this number
abbrev pub nth : List ℤ → ℕ → ℤ
nth raw k = slice_index_or raw k (pos 0)

-- The function types 0 to 4 by their parameters in the standard's order. Where d is 0 there is no line.
abbrev pub parametric : ℕ → List ℤ → ParametricValue
parametric kind raw =
    if kind == 0 then
    record { g = nth raw 0; a = pos 65536; b = pos 0; c = pos 0; d = pos 0; e = pos 0; f = pos 0 }
    else if kind == 1 then
    record { g = nth raw 0; a = nth raw 1; b = nth raw 2; c = pos 0; d = pos 0; e = pos 0; f = pos 0 }
    else if kind == 2 then
    record { g = nth raw 0; a = nth raw 1; b = nth raw 2; c = pos 0; d = pos 0; e = nth raw 3; f = pos 0 }
    else if kind == 3 then
    record { g = nth raw 0; a = nth raw 1; b = nth raw 2; c = nth raw 3; d = nth raw 4; e = pos 0; f = pos 0 }
    else record {
      g = nth raw 0;
      a = nth raw 1;
      b = nth raw 2;
      c = nth raw 3;
      d = nth raw 4;
      e = nth raw 5;
      f = nth raw 6;
    }

-- what parameters keep: a positive g below 2^32, and each other one within 32 bits
pub record IsParametric (p : ParametricValue) : Type 0 where
  pub g : (pos 0 <ℤ p.g) × (p.g <ℤ pos (2 ^ 32))
  pub a : IsWhole p.a
  pub b : IsWhole p.b
  pub c : IsWhole p.c
  pub d : IsWhole p.d
  pub e : IsWhole p.e
  pub f : IsWhole p.f

-- a line aX + b at a value v of 16 bits, X = v / 65535, in 1/2^32
abbrev pub line_at : ℤ → ℤ → ℕ → ℤ
line_at a b v = div_round (a *ℤ pos (v * 65536)) (pos 65535) +ℤ b *ℤ pos 65536

-- whether X is below d
abbrev pub is_below : ℤ → ℕ → Bool
is_below d v = int_lt (pos (v * 65536)) (d *ℤ pos 65535)

-- Y at a value of 16 bits, in 1/2^32
unfoldable pub y_at : ParametricValue → ℕ → ℤ
y_at p v =
    if is_below p.d v then line_at p.c p.f v
    else pos (power (line_at p.a p.b v) p.g) +ℤ p.e *ℤ pos 65536

-- a number from 0 to 1 as a value of 16 bits
abbrev pub value_of : ℤ → ℕ
value_of y = rounded (65535 * unsigned_abs (clamped (pos 0) (pos (2 ^ 32)) y)) (2 ^ 32)

-- the value of a parametric curve at a value of 16 bits
unfoldable pub parametric_at : ParametricValue → ℕ → ℕ
parametric_at p v = value_of (y_at p v)

-- the entries that a parametric curve is given: one for each value of 16 bits
unfoldable pub entry_count : ℕ
entry_count = 65536

-- a parametric curve as a curve of so many entries
unfoldable pub power_curve : ParametricValue → CurveValue
power_curve p = Some (map (parametric_at p) (range_with_len 0 entry_count))

-- the law of a power: its values never fall, the first is 0, the last 65535
pub record IsPower (value : ℕ → ℕ) : Type 0 where
  pub first : value 0 ≡ 0
  pub last : value 65535 ≡ 65535
  pub rises : (v w : ℕ) → v ≤ w → value v ≤ value w
