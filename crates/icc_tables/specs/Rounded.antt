-- Own rule: every division of the colour arithmetic is exact and rounded once to the nearest, a tie going up.
use Rattle.std.specs.Prelude.{ℕ, ◌+◌, ◌*◌, ◌/◌, ℤ, int_lt, if◌then◌else◌}

-- n / d rounded to the nearest, for numbers that aren't negative: what `div_round` of press_nums is of these
unfoldable pub rounded : ℕ → ℕ → ℕ
rounded n d = (n * 2 + d) / (d * 2)

-- a whole number taken into a range
abbrev pub clamped : ℤ → ℤ → ℤ → ℤ
clamped low high n = if int_lt n low then low else if int_lt high n then high else n
