-- Which byte lists are no profile (ICC.1:2010, 7.2 Profile header, 7.3 Tag table, 8 Required tags). Own rule: the
-- faults and their order; each is asked of a profile that has none of those before it.
use Rattle.std.specs.Prelude.{ℕ, ◌+◌, ◌*◌, ◌==◌, ◌||◌, Bool, not, nat_lt, List, length, Option, Some, None, codes}
use Rattle.std.specs.Prelude.{if◌then◌else◌}
use Rattle.std.specs.List.{list_any}
use Rattle.byteorder.specs.Endian.{big_number}
use Rattle.press_fault.specs.declared.names.ProfileFault.{ProfileFault}
use Rattle.press_fault.specs.declared.names.ProfileFault.TheVariants.{TooShort, NoSignature, SizeField, TagTable}
use Rattle.press_fault.specs.declared.names.ProfileFault.TheVariants.{TagRange}
use Rattle.press_fault.specs.declared.names.ProfileFault.TheVariants.{ClassOrSpace, MissingTag, TagType, TagShape}
use Rattle.icc_read.specs.Table.{size_field, class_field, space_field, pcs_field, file_signature, tag_count, is_class}
use Rattle.icc_read.specs.Table.{gray, rgb, cmyk, xyz, lab, EntryValue, entries_of}
use Rattle.icc_read.specs.Tags.{has_tag, has_matrix, has_gray_curve, has_wrong_type, has_misshapen}

-- 1: there are fewer bytes than a header and a tag count have
unfoldable pub is_too_short : List ℕ → Bool
is_too_short bytes = nat_lt (length bytes) 132

-- 2: the header hasn't the signature that all profiles have
unfoldable pub has_no_signature : List ℕ → Bool
has_no_signature bytes = not (file_signature bytes == big_number 4 (codes "acsp"))

-- 3: the size is less than a header and a tag count have, or more than there are bytes
unfoldable pub has_bad_size : List ℕ → Bool
has_bad_size bytes = nat_lt (size_field bytes) 132 || nat_lt (length bytes) (size_field bytes)

-- 4: there are over 256 tags, or their table passes the end
unfoldable pub has_bad_table : List ℕ → Bool
has_bad_table bytes = nat_lt 256 (tag_count bytes) || nat_lt (size_field bytes) (132 + 12 * tag_count bytes)

-- a tag begins in the header, or passes the end
abbrev pub is_outside : ℕ → EntryValue → Bool
is_outside size entry = nat_lt entry.offset 132 || nat_lt size (entry.offset + entry.size)

-- 5: a tag does, used or not
unfoldable pub has_tag_outside : List ℕ → Bool
has_tag_outside bytes = list_any (is_outside (size_field bytes)) (entries_of bytes)

-- 6: the class, the colour space or the connection space isn't one that is taken
unfoldable pub is_not_taken : List ℕ → Bool
is_not_taken bytes =
    not (is_class (class_field bytes))
    || not (space_field bytes == gray || space_field bytes == rgb || space_field bytes == cmyk)
    || not (pcs_field bytes == xyz || pcs_field bytes == lab)

-- 7: it is no source, since it has no transform A2B0, no matrix and no curve of gray
unfoldable pub is_no_source : List ℕ → Bool
is_no_source bytes =
    not (has_tag bytes (big_number 4 (codes "A2B0")) || has_matrix bytes || has_gray_curve bytes)

-- the least fault, none for a profile: 8 a used tag has another type than its kind has, 9 one is misshapen
unfoldable pub fault_of : List ℕ → Option ProfileFault
fault_of bytes =
    if is_too_short bytes then Some TooShort
    else if has_no_signature bytes then Some NoSignature
    else if has_bad_size bytes then Some SizeField
    else if has_bad_table bytes then Some TagTable
    else if has_tag_outside bytes then Some TagRange
    else if is_not_taken bytes then Some ClassOrSpace
    else if is_no_source bytes then Some MissingTag
    else if has_wrong_type bytes then Some TagType
    else if has_misshapen bytes then Some TagShape
    else None
