-- Device colour spaces and the codes of colours (PostScript Language Reference, third edition, 4.8.2 Device Color
-- Spaces).
-- Own rule: a colour component, taken into 0 to 1, becomes a code of 8 bits, rounded once; the dots are made of these.
use Rattle.std.specs.Prelude.{ℕ, ℤ, pos, ◌+◌, ◌*◌, ◌-◌, ◌*ℤ◌, int_lt, unsigned_abs, List, [], ◌∷◌, ◌++◌, length, map}
use Rattle.std.specs.Prelude.{min, replicate, slice_index, if◌then◌else◌}
use Rattle.press_nums.specs.Rounding.{div_round}
use Rattle.press_fault.specs.Plane.{CodeValue}
use Rattle.gfx_state.specs.declared.colour.Space.{Space}
use Rattle.gfx_state.specs.declared.colour.Space.TheVariants.{Gray, Rgb, Cmyk}

-- how many components a colour of a space has
abbrev pub channels_of : Space → ℕ
channels_of Gray = 1
channels_of Rgb = 3
channels_of Cmyk = 4

-- a component, taken into 0 to 1 (raw 0 to 65536)
abbrev pub in_unit : ℤ → ℤ
in_unit raw = if int_lt raw (pos 0) then pos 0 else (if int_lt (pos 65536) raw then pos 65536 else raw)

-- the code of a component, 0 to 255, rounded once
unfoldable pub code_of : ℤ → ℕ
code_of raw = unsigned_abs (div_round (in_unit raw *ℤ pos 255) (pos 65536))

-- the codes of a colour, one for each component, in four places
abbrev pub codes_of : List ℤ → CodeValue
codes_of values = record { n = length values; c = map code_of values ++ replicate (4 - length values) 0 }

-- the first colour of a space, which is black
abbrev pub first_colour : Space → CodeValue
first_colour Gray = record { n = 1; c = 0 ∷ 0 ∷ 0 ∷ 0 ∷ [] }
first_colour Rgb = record { n = 3; c = 0 ∷ 0 ∷ 0 ∷ 0 ∷ [] }
first_colour Cmyk = record { n = 4; c = 0 ∷ 0 ∷ 0 ∷ 255 ∷ [] }

-- Red, green and blue weigh 30, 59 and 11 of 100 (PostScript Language Reference, third edition, 7.2.1 Conversion
-- between DeviceRGB and DeviceGray).
abbrev pub weighed : ℕ → ℕ → ℕ → ℕ
weighed first second third = 30 * first + 59 * second + 11 * third

-- the gray of codes as a raw number, rounded once: of gray itself; of red, green and blue as weighed; of cyan, magenta,
-- yellow and black 1 less the first three as weighed and black, and 0 at least
unfoldable pub gray_of : Space → List ℕ → ℤ
gray_of Gray c = div_round (pos (slice_index c 0 * 65536)) (pos 255)
gray_of Rgb c = div_round (pos (weighed (slice_index c 0) (slice_index c 1) (slice_index c 2) * 65536)) (pos 25500)
gray_of Cmyk c =
    div_round (pos ((25500 - min 25500 (weighed (slice_index c 0) (slice_index c 1) (slice_index c 2) + 100
    * slice_index c 3)) * 65536)) (pos 25500)
