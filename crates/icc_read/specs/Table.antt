-- The header of a profile and its tag table (ICC.1:2010, 7.2 Profile header and 7.3 Tag table).
use Rattle.std.specs.Prelude.{ℕ, ◌+◌, ◌*◌, ◌==◌, ◌||◌, Bool, List, map, take, drop, codes, Option, option_map}
use Rattle.std.specs.List.{range_with_len, find}
use Rattle.byteorder.specs.Endian.{big_number}
use Rattle.icc_power.specs.CurveTag.{u32_at}

-- the size of a profile (7.2.2)
abbrev pub size_field : List ℕ → ℕ
size_field bytes = u32_at bytes 0

-- its class (7.2.5)
abbrev pub class_field : List ℕ → ℕ
class_field bytes = u32_at bytes 12

-- its colour space (7.2.6)
abbrev pub space_field : List ℕ → ℕ
space_field bytes = u32_at bytes 16

-- its connection space (7.2.7)
abbrev pub pcs_field : List ℕ → ℕ
pcs_field bytes = u32_at bytes 20

-- the signature that all profiles have (7.2.9)
abbrev pub file_signature : List ℕ → ℕ
file_signature bytes = u32_at bytes 36

-- how many tags it has (7.3.2)
abbrev pub tag_count : List ℕ → ℕ
tag_count bytes = u32_at bytes 128

-- the classes that are taken: of input, display, output and colour space profiles
abbrev pub is_class : ℕ → Bool
is_class n =
    n == big_number 4 (codes "scnr") || n == big_number 4 (codes "mntr") || n == big_number 4 (codes "prtr")
    || n == big_number 4 (codes "spac")

-- a colour space that is taken: gray
abbrev pub gray : ℕ
gray = big_number 4 (codes "GRAY")

-- another: red, green and blue
abbrev pub rgb : ℕ
rgb = big_number 4 (codes "RGB ")

-- the third: cyan, magenta, yellow and black
abbrev pub cmyk : ℕ
cmyk = big_number 4 (codes "CMYK")

-- a connection space: XYZ
abbrev pub xyz : ℕ
xyz = big_number 4 (codes "XYZ ")

-- the other connection space: Lab
abbrev pub lab : ℕ
lab = big_number 4 (codes "Lab ")

-- an entry of the tag table: a signature, and the place and the length of the tag's bytes (7.3.3 to 7.3.5)
pub record EntryValue : Type 0 where
  pub signature : ℕ
  pub offset : ℕ
  pub size : ℕ

-- the entry of this number
abbrev pub entry_at : List ℕ → ℕ → EntryValue
entry_at bytes k = record {
  signature = u32_at bytes (132 + 12 * k);
  offset = u32_at bytes (136 + 12 * k);
  size = u32_at bytes (140 + 12 * k);
}

-- the whole table
abbrev pub entries_of : List ℕ → List EntryValue
entries_of bytes = map (entry_at bytes) (range_with_len 0 (tag_count bytes))

-- The entry of a signature, if the table has it. Own rule: of equal signatures the first counts.
unfoldable pub entry_of : List ℕ → ℕ → Option EntryValue
entry_of bytes signature = find (λ e. e.signature == signature) (entries_of bytes)

-- the bytes of an entry's tag
abbrev pub bytes_of : List ℕ → EntryValue → List ℕ
bytes_of bytes entry = take entry.size (drop entry.offset bytes)

-- the bytes of the tag of a signature, if the table has it
abbrev pub tag_of : List ℕ → ℕ → Option (List ℕ)
tag_of bytes signature = option_map (bytes_of bytes) (entry_of bytes signature)
