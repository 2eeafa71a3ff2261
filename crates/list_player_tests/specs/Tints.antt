-- The colours of the tests' sources. Own rule: a source has the channels that its number tells, and its number and the
-- code's first two values tell a colour. At 16 bits the high byte of each value is that of 8 bits.
use Rattle.std.specs.Prelude.{ℕ, ◌-◌, ◌*◌, ◌+◌, List, [], ◌∷◌, slice_index, if◌then◌else◌, ◌==◌}
use Rattle.press_fault.specs.Plane.{CodeValue}

-- how many channels the codes of a source have: three, or one for source 0
abbrev pub channels_of : ℕ → ℕ
channels_of source = if source == 0 then 1 else 3

-- the blue of a source
abbrev pub blue_of : ℕ → ℕ
blue_of source = if source == 2 then 200 else 100

-- the colour of a source's code
abbrev pub colour_of : ℕ → CodeValue → List ℕ
colour_of source code = slice_index code.c 0 ∷ (255 - slice_index code.c 1) ∷ blue_of source ∷ []

-- the low bytes of its colour at 16 bits
abbrev pub low_of : ℕ → CodeValue → List ℕ
low_of source code = 7 ∷ slice_index code.c 1 ∷ (blue_of source - 50) ∷ []

-- its colour at 16 bits
abbrev pub wide_of : ℕ → CodeValue → List ℕ
wide_of source code =
    (slice_index code.c 0 * 256 + 7)
    ∷ ((255 - slice_index code.c 1) * 256 + slice_index code.c 1)
    ∷ (blue_of source * 256 + (blue_of source - 50))
    ∷ []
