-- What the reader of a tag may take for granted: the tests before it, as facts.
use Rattle.std.specs.Prelude.{◌≡◌, ◌≤◌, ◌⊎◌, ℕ, ◌+◌, ◌*◌, Bool, false, List, Option, length, slice_index}
use Rattle.std.specs.Option.{option_map_or}
use Rattle.icc_model.specs.Profile.{IsSuitedTransform, nth}
use Rattle.icc_model.specs.declared.profile.Transform.{Transform}
use Rattle.icc_read.specs.Table.{size_field, tag_count, tag_of}
use Rattle.icc_read.specs.Faults.{has_tag_outside, is_not_taken, is_no_source}
use Rattle.icc_read.specs.Content.{has_other_type, is_misshapen, before_count, after_count, mft1_size, mft2_size}
use Rattle.icc_read.specs.Tags.{any_tag, has_wrong_type, has_misshapen}
use Rattle.icc_read.specs.declared.content.Content.{Content}
use Rattle.icc_read.specs.declared.content.Content.TheVariants as kind

-- header, tag table and tags lie within the bytes
pub record IsTabled (bytes : List ℕ) : Type 0 where
  pub header : 132 ≤ length bytes
  pub size : size_field bytes ≤ length bytes
  pub table : 132 + 12 * tag_count bytes ≤ size_field bytes
  pub tags : has_tag_outside bytes ≡ false

-- bytes without a fault
pub record IsSound (bytes : List ℕ) : Type 0 where
  pub tabled : IsTabled bytes
  pub taken : is_not_taken bytes ≡ false
  pub source : is_no_source bytes ≡ false
  pub types : has_wrong_type bytes ≡ false
  pub shapes : has_misshapen bytes ≡ false

-- the tags of these signatures that are there are of their kind
pub record AreSoundTags (bytes : List ℕ) (content : Content) (signatures : List ℕ) : Type 0 where
  pub known : any_tag bytes (has_other_type content) signatures ≡ false
  pub shape : any_tag bytes (is_misshapen content) signatures ≡ false

-- the same of one signature
pub record IsSoundTag (bytes : List ℕ) (content : Content) (signature : ℕ) : Type 0 where
  pub known : option_map_or (has_other_type content) (tag_of bytes signature) false ≡ false
  pub shape : option_map_or (is_misshapen content) (tag_of bytes signature) false ≡ false

-- the channels of a colour space: 1, 3 or 4
abbrev pub IsChannels : ℕ → Type 0
IsChannels inputs = (inputs ≡ 1) ⊎ (inputs ≡ 3) ⊎ (inputs ≡ 4)

-- the channels of a transform are those of a colour space
abbrev pub HasChannels : Content → Type 0
HasChannels (kind.Transform forward inputs is_lab) = IsChannels inputs
HasChannels kind.Column = Unit {0}
HasChannels kind.Curve = Unit {0}

-- each of some transforms takes the channels
abbrev pub AreSuited : Bool → Bool → ℕ → List (Option Transform) → Type 0
AreSuited forward is_lab inputs transforms =
    (number : ℕ) → IsSuitedTransform forward is_lab inputs (nth transforms number)

-- what a lut of 8 bits is that isn't bad
pub record IsMft1 (inputs : ℕ) (tag : List ℕ) : Type 0 where
  pub long : 48 ≤ length tag
  pub channels : slice_index tag 8 ≡ inputs
  pub outputs : slice_index tag 9 ≡ 3
  pub points : 2 ≤ slice_index tag 10
  pub size : mft1_size inputs tag ≤ length tag

-- what a lut of 16 bits is that isn't bad
pub record IsMft2 (inputs : ℕ) (tag : List ℕ) : Type 0 where
  pub long : 52 ≤ length tag
  pub channels : slice_index tag 8 ≡ inputs
  pub outputs : slice_index tag 9 ≡ 3
  pub points : 2 ≤ slice_index tag 10
  pub some_before : 2 ≤ before_count tag
  pub few_before : before_count tag ≤ 4096
  pub some_after : 2 ≤ after_count tag
  pub few_after : after_count tag ≤ 4096
  pub size : mft2_size inputs tag ≤ length tag
