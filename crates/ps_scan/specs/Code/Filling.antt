-- Hexadecimal digits read as data from left to right, what is put and how far is read. Own rule: as
-- Taking.
use Rattle.std.specs.Prelude.{ℕ, ◌+◌, ◌-◌, ◌*◌, ◌==◌, List, [], ◌∷◌, Option, Some, None, if◌then◌else◌}
use Rattle.ps_scan.specs.Characters.{is_hex, digit_value}

-- the bytes of the digits, at most so many, where half a byte may be held
unfoldable pub hex_put : ℕ → Option ℕ → List ℕ → List ℕ
hex_put room half [] = []
hex_put room None (c ∷ cs) =
    if room == 0 then []
    else if is_hex c then hex_put room (Some (digit_value c)) cs else hex_put room None cs
hex_put room (Some high) (c ∷ cs) =
    if room == 0 then []
    else if is_hex c then (16 * high + digit_value c) ∷ hex_put (room - 1) None cs else hex_put room (Some high) cs

-- how many bytes are read for the bytes that are put
unfoldable pub hex_used : ℕ → Option ℕ → List ℕ → ℕ
hex_used room half [] = 0
hex_used room None (c ∷ cs) =
    if room == 0 then 0
    else if is_hex c then 1 + hex_used room (Some (digit_value c)) cs else 1 + hex_used room None cs
hex_used room (Some high) (c ∷ cs) =
    if room == 0 then 0
    else if is_hex c then 1 + hex_used (room - 1) None cs else 1 + hex_used room (Some high) cs
