-- What a profile's bytes say (ICC.1:2010, 10.5 curveType, 10.8 lut16Type, 10.9 lut8Type, 10.16 parametricCurveType,
-- 10.29 XYZType): the value of bytes that have no fault.
use Rattle.std.specs.Prelude.{ℕ, ◌+◌, ◌*◌, ◌==◌, Bool, true, false, List, [], ◌∷◌, map, take, slice_index}
use Rattle.std.specs.Prelude.{Option, Some, None, option_map, ℤ, if◌then◌else◌}
use Rattle.std.specs.Option.{option_map_or}
use Rattle.std.specs.List.{range_with_len, flat_map}
use Rattle.icc_tables.specs.Curves.{CurveValue}
use Rattle.icc_tables.specs.Lattice.{LutValue}
use Rattle.icc_tables.specs.Stored.{nodes_of}
use Rattle.icc_tables.specs.declared.nodes.NodeSize.TheVariants.{Byte, Word}
use Rattle.icc_power.specs.CurveTag.{u16_at, s15_at, type_of, curve_of}
use Rattle.icc_model.specs.Profile.{ProfileValue}
use Rattle.icc_model.specs.declared.profile.Transform.{Transform}
use Rattle.icc_model.specs.declared.profile.Transform.TheVariants.{Lut, Stages}
use Rattle.icc_model.specs.declared.profile.Base.{Base}
use Rattle.icc_model.specs.declared.profile.Base.TheVariants.{Matrix, Gray}
use Rattle.icc_read.specs.Table.{size_field, tag_of}
use Rattle.icc_v4lut.specs.StagesTag.{stages_of}
use Rattle.icc_read.specs.Content.{is_stages, mft2, node_count, before_count, after_count}
use Rattle.icc_read.specs.Tags.{forward_tags, backward_tags, column_tags, curve_tags, gray_tag}
use Rattle.icc_read.specs.Tags.{has_matrix, has_gray_curve}
use Rattle.icc_read.specs.Tags.{channels_of, is_lab, is_rgb}

-- signed numbers of 32 bits, one after another
abbrev pub signed_numbers : List ℕ → ℕ → ℕ → List ℤ
signed_numbers tag at count = map (λ k. s15_at tag (at + 4 * k)) (range_with_len 0 count)

-- values of 8 bits, one after another
unfoldable pub bytes_from : List ℕ → ℕ → ℕ → List ℕ
bytes_from tag at count = map (λ k. slice_index tag (at + k)) (range_with_len 0 count)

-- values of 16 bits, one after another
unfoldable pub words_from : List ℕ → ℕ → ℕ → List ℕ
words_from tag at count = map (λ k. u16_at tag (at + 2 * k)) (range_with_len 0 count)

-- a lut of 8 bits: from 48 on input tables, lattice and output tables, a table of 256 entries
unfoldable pub lut8 : ℕ → List ℕ → LutValue
lut8 inputs tag = record {
  wide = false;
  inputs = inputs;
  grid = slice_index tag 10;
  matrix = signed_numbers tag 12 9;
  before_count = 256;
  after_count = 256;
  before = bytes_from tag 48 (inputs * 256);
  nodes = nodes_of Byte tag (48 + inputs * 256) (node_count inputs tag);
  after = bytes_from tag (48 + inputs * 256 + node_count inputs tag) (3 * 256);
}

-- a lut of 16 bits: from 52 on input tables, lattice and output tables
unfoldable pub lut16 : ℕ → List ℕ → LutValue
lut16 inputs tag = record {
  wide = true;
  inputs = inputs;
  grid = slice_index tag 10;
  matrix = signed_numbers tag 12 9;
  before_count = before_count tag;
  after_count = after_count tag;
  before = words_from tag 52 (inputs * before_count tag);
  nodes = nodes_of Word tag (52 + 2 * (inputs * before_count tag)) (node_count inputs tag);
  after = words_from tag (52 + 2 * (inputs * before_count tag + node_count inputs tag)) (3 * after_count tag);
}

-- the transform of a tag
unfoldable pub transform_of : Bool → ℕ → List ℕ → Transform
transform_of forward inputs tag =
    if is_stages forward tag then Stages (stages_of forward inputs tag)
    else Lut (if type_of tag == mft2 then lut16 inputs tag else lut8 inputs tag)

-- the transforms of these signatures, those that are there
abbrev pub transforms_of : List ℕ → Bool → ℕ → List ℕ → List (Option Transform)
transforms_of bytes forward inputs signatures =
    map (λ signature. option_map (transform_of forward inputs) (tag_of bytes signature)) signatures

-- the three numbers of a column
abbrev pub column_of : List ℕ → ℕ → List ℤ
column_of bytes signature = option_map_or (λ tag. signed_numbers tag 8 3) (tag_of bytes signature) []

-- the curve of a tag
abbrev pub curve_at : List ℕ → ℕ → CurveValue
curve_at bytes signature = option_map_or curve_of (tag_of bytes signature) None

-- The matrix of a profile of RGB and XYZ, where all of it is there; the curve of one of GRAY. Own rule: a matrix that
-- is there in part is none.
unfoldable pub base_of : List ℕ → Option Base
base_of bytes =
    if has_matrix bytes then Some (Matrix (flat_map (column_of bytes) column_tags) (map (curve_at bytes) curve_tags))
    else if has_gray_curve bytes then Some (Gray (curve_at bytes gray_tag))
    else None

-- the transforms to the connection space
abbrev pub forward_of : List ℕ → List (Option Transform)
forward_of bytes = transforms_of bytes true (channels_of bytes) forward_tags

-- the transforms from it, which only a profile of RGB has
abbrev pub backward_of : List ℕ → List (Option Transform)
backward_of bytes = if is_rgb bytes then transforms_of bytes false 3 backward_tags else None ∷ None ∷ None ∷ []

-- the value of a profile, which is the first `size` bytes
unfoldable pub profile_of : List ℕ → ProfileValue
profile_of bytes = record {
  bytes = take (size_field bytes) bytes;
  lab = is_lab bytes;
  channels = channels_of bytes;
  base = base_of bytes;
  forward = forward_of bytes;
  backward = backward_of bytes;
}
