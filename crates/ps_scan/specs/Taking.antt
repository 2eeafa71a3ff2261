-- Hexadecimal digits read as data, as by readhexstring (PostScript Language Reference, third
-- edition, 8.2 Operator Details). All other bytes are skipped. Own rule: a last digit with no
-- partner gives no byte.
use Rattle.std.specs.Prelude.{ℕ, zero, suc, ◌/◌, List, [], ◌∷◌, length, take, min, if◌then◌else◌}
use Rattle.std.specs.List.{filter}
use Rattle.ps_scan.specs.Characters.{is_hex, pairs}

-- how many bytes the digits of a text fill, where there is room for so many
abbrev pub hex_count : ℕ → List ℕ → ℕ
hex_count room text = min room (length (filter is_hex text) / 2)

-- the bytes that the digits of a text fill, at most so many
abbrev pub hex_front : ℕ → List ℕ → List ℕ
hex_front room text = take (hex_count room text) (pairs (filter is_hex text))

-- the text behind so many digits: right behind the last of them, or the text's end where there are
-- fewer
unfoldable pub behind_hex : ℕ → List ℕ → List ℕ
behind_hex zero text = text
behind_hex (suc n) [] = []
behind_hex (suc n) (c ∷ cs) = if is_hex c then behind_hex n cs else behind_hex (suc n) cs
