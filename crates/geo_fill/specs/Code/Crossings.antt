-- Where the edges of rings cross a row: the winding number at a column comes from the crossings at its
-- centre or left of it (PostScript Language Reference, third edition, 4.5 Painting).
use Rattle.std.specs.Prelude.{ℕ, ◌≤◌, nat_le, List, map, Option, Some, None, ℤ, pos, negsuc, if◌then◌else◌}
use Rattle.page_model.specs.Inside.{total}
use Rattle.geo_fill.specs.declared.crossing.Crossing.{Crossing}

-- what a crossing adds to the winding number behind it: 1 where its edge rises there, -1 where it falls
abbrev pub whole_turn : Crossing → ℤ
whole_turn crossing = if crossing.rises then pos 1 else negsuc 0

-- what a crossing adds to the winding number at a column: that from its own column on, 0 before
abbrev pub turn_at : ℕ → Crossing → ℤ
turn_at col crossing = if nat_le crossing.col col then whole_turn crossing else pos 0

-- the same, where there may be no crossing
abbrev pub turn_by : ℕ → Option Crossing → ℤ
turn_by col None = pos 0
turn_by col (Some crossing) = turn_at col crossing

-- the winding number at a column: the sum of what crossings add there
abbrev pub winding_by : ℕ → List Crossing → ℤ
winding_by col crossings = total (map (turn_at col) crossings)

-- a crossing is of a range, or at its end
abbrev pub IsOfRange : ℕ → ℕ → Crossing → Type 0
IsOfRange from to crossing = (from ≤ crossing.col) × (crossing.col ≤ to)
