-- The tags that a profile uses (ICC.1:2010, 8 Required tags, 9.2 Tag listing). Own rule: tags that it doesn't use
-- aren't looked at.
use Rattle.std.specs.Prelude.{ℕ, ◌==◌, ◌||◌, ◌&&◌, Bool, true, false, not, List, [], ◌∷◌, codes, is_some}
use Rattle.std.specs.Option.{option_map_or}
use Rattle.std.specs.Prelude.{if◌then◌else◌}
use Rattle.std.specs.List.{list_any, list_all}
use Rattle.byteorder.specs.Endian.{big_number}
use Rattle.icc_read.specs.Table.{space_field, pcs_field, gray, rgb, lab, entry_of, tag_of}
use Rattle.icc_read.specs.Content.{has_other_type, is_misshapen}
use Rattle.icc_read.specs.declared.content.Content.{Content}
use Rattle.icc_read.specs.declared.content.Content.TheVariants.{Transform, Column, Curve}

-- the transforms to the connection space, for the three rendering intents
abbrev pub forward_tags : List ℕ
forward_tags = big_number 4 (codes "A2B0") ∷ big_number 4 (codes "A2B1") ∷ big_number 4 (codes "A2B2") ∷ []

-- the transforms from it
abbrev pub backward_tags : List ℕ
backward_tags = big_number 4 (codes "B2A0") ∷ big_number 4 (codes "B2A1") ∷ big_number 4 (codes "B2A2") ∷ []

-- the columns of the matrix
abbrev pub column_tags : List ℕ
column_tags = big_number 4 (codes "rXYZ") ∷ big_number 4 (codes "gXYZ") ∷ big_number 4 (codes "bXYZ") ∷ []

-- its curves
abbrev pub curve_tags : List ℕ
curve_tags = big_number 4 (codes "rTRC") ∷ big_number 4 (codes "gTRC") ∷ big_number 4 (codes "bTRC") ∷ []

-- the curve of gray
abbrev pub gray_tag : ℕ
gray_tag = big_number 4 (codes "kTRC")

-- whether the table has a tag of this signature
abbrev pub has_tag : List ℕ → ℕ → Bool
has_tag bytes signature = is_some (entry_of bytes signature)

-- whether the colour space is GRAY
abbrev pub is_gray : List ℕ → Bool
is_gray bytes = space_field bytes == gray

-- whether the colour space is RGB
abbrev pub is_rgb : List ℕ → Bool
is_rgb bytes = space_field bytes == rgb

-- whether the connection space is Lab
abbrev pub is_lab : List ℕ → Bool
is_lab bytes = pcs_field bytes == lab

-- the channels of the colour space
abbrev pub channels_of : List ℕ → ℕ
channels_of bytes = if is_gray bytes then 1 else if is_rgb bytes then 3 else 4

-- whether a profile of RGB and XYZ has a whole matrix
unfoldable pub has_matrix : List ℕ → Bool
has_matrix bytes =
    is_rgb bytes && not (is_lab bytes) && list_all (has_tag bytes) column_tags && list_all (has_tag bytes) curve_tags

-- whether a profile of GRAY has its curve
unfoldable pub has_gray_curve : List ℕ → Bool
has_gray_curve bytes = is_gray bytes && has_tag bytes gray_tag

-- whether one of the tags of these signatures that are there fails a test
abbrev pub any_tag : List ℕ → (List ℕ → Bool) → List ℕ → Bool
any_tag bytes fails signatures =
    list_any (λ signature. option_map_or fails (tag_of bytes signature) false) signatures

-- what the transforms of a profile to its connection space are
abbrev pub forward_content : List ℕ → Content
forward_content bytes = Transform true (channels_of bytes) (is_lab bytes)

-- what the transforms from its connection space are: those give three channels
abbrev pub backward_content : List ℕ → Content
backward_content bytes = Transform false 3 (is_lab bytes)

-- Whether a used tag fails the test of its kind. Used are the transforms to the connection space; those from it where
-- the colour space is RGB; what is there of the matrix where it is RGB and the connection space XYZ; the curve of gray
-- where it is GRAY.
abbrev pub any_used : List ℕ → (Content → List ℕ → Bool) → Bool
any_used bytes fails =
    any_tag bytes (fails (forward_content bytes)) forward_tags
    || (is_rgb bytes && any_tag bytes (fails (backward_content bytes)) backward_tags)
    || (is_rgb bytes && not (is_lab bytes) && any_tag bytes (fails Column) column_tags)
    || (is_rgb bytes && not (is_lab bytes) && any_tag bytes (fails Curve) curve_tags)
    || (is_gray bytes && any_tag bytes (fails Curve) (gray_tag ∷ []))

-- a used tag of 8 bytes or more has another type than its kind has
unfoldable pub has_wrong_type : List ℕ → Bool
has_wrong_type bytes = any_used bytes has_other_type

-- a used tag is misshapen
unfoldable pub has_misshapen : List ℕ → Bool
has_misshapen bytes = any_used bytes is_misshapen
