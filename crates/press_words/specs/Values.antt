-- The values of options, and the named profiles. Own rules: sizes are in points of 1/72 inch, NAME and FILE are cut
-- at the first `=`, and no file name is empty.
use Rattle.std.specs.Prelude.{ℕ, ◌==◌, Bool, ◌&&◌, ◌||◌, List, length, Option, Some, None}
use Rattle.std.specs.Prelude.{if◌then◌else◌, nat_le, nat_lt}
use Rattle.std.specs.List.{list_all}
use Rattle.press_words.specs.Text.{cut_at, number_of, is_digit}

-- a number within bounds
abbrev pub within : ℕ → ℕ → Option ℕ → Option ℕ
within least most None = None
within least most (Some n) = if nat_le least n && nat_le n most then Some n else None

-- a number in decimal from a least to a most
abbrev pub number_from : ℕ → ℕ → List ℕ → Option ℕ
number_from least most text = within least most (number_of text)

-- both sides of a page
abbrev pub both : Option ℕ → Option ℕ → Option (ℕ × ℕ)
both (Some width) (Some height) = Some (width, height)
both width height = None

-- the sides in points of a size that is cut at its x, each from 1 to 14400
abbrev pub sides_in : Option (List ℕ × List ℕ) → Option (ℕ × ℕ)
sides_in None = None
sides_in (Some parts) = both (number_from 1 14400 parts.0) (number_from 1 14400 parts.1)

-- the sides in points of a size such as `612x792`
abbrev pub sides_of : List ℕ → Option (ℕ × ℕ)
sides_of text = sides_in (cut_at 120 text)

-- 8 or 16
abbrev pub eight_or_sixteen : Option ℕ → Option ℕ
eight_or_sixteen None = None
eight_or_sixteen (Some n) = if n == 8 || n == 16 then Some n else None

-- the bits of a sample
abbrev pub depth_of : List ℕ → Option ℕ
depth_of text = eight_or_sixteen (number_of text)

-- a file's name, which isn't empty
abbrev pub file_of : List ℕ → Option (List ℕ)
file_of text = if nat_lt 0 (length text) then Some text else None

-- whether a byte may stand in a profile's name: a letter or a digit of ASCII, a dash, or an underscore
abbrev pub is_name_byte : ℕ → Bool
is_name_byte c = nat_le 97 c && nat_le c 122 || (nat_le 65 c && nat_le c 90 || (is_digit c || (c == 45 || c == 95)))

-- whether a text may name a profile: 1 to 64 such bytes
abbrev pub is_name : List ℕ → Bool
is_name text = nat_lt 0 (length text) && nat_le (length text) 64 && list_all is_name_byte text

-- a profile's name and its file
pub record NamedFileValue : Type 0 where
  pub name : List ℕ
  pub file : List ℕ

-- a name and a file that stand around a `=`
abbrev pub named_file_in : Option (List ℕ × List ℕ) → Option NamedFileValue
named_file_in None = None
named_file_in (Some parts) =
    if is_name parts.0 && nat_lt 0 (length parts.1) then Some (record { name = parts.0; file = parts.1 }) else None

-- the name and the file of a word such as `camera=camera.icc`
abbrev pub named_file_of : List ℕ → Option NamedFileValue
named_file_of word = named_file_in (cut_at 61 word)
