-- What bytes without a fault say of their tags.
use Rattle.std.proofs.Common.{◌≡◌, ℕ, zero, suc, Bool, true, false, List, [], ◌∷◌, refl, sym, Option, None}
use Rattle.std.specs.Prelude.{◌||◌, ◌&&◌, not}
use Rattle.std.specs.Option.{option_map_or}
use Rattle.std.specs.List.{list_all}
use Rattle.std.proofs.lemmas.Bool.{false≢true}
use Rattle.proof_words.proofs.Tests.{and_first, and_second}
use Rattle.icc_power.proofs.Shapes.{or_first, or_second}
use Rattle.icc_model.specs.Profile.{IsSuitedTransform}
use Rattle.icc_model.specs.declared.profile.Transform.{Transform}
use Rattle.icc_read.specs.Table.{tag_of, rgb}
use Rattle.icc_read.specs.Content.{has_other_type, is_misshapen}
use Rattle.icc_read.specs.Tags.{any_tag, any_used, has_tag, has_matrix, has_gray_curve, has_wrong_type, has_misshapen}
use Rattle.icc_read.specs.Tags.{forward_tags, backward_tags, column_tags, curve_tags, gray_tag}
use Rattle.icc_read.specs.Tags.{forward_content, backward_content, is_rgb, is_gray, is_lab}
use Rattle.icc_read.specs.Code.Premises.{IsSound, IsSoundTag, AreSoundTags, AreSuited}
use Rattle.icc_read.specs.declared.content.Content.{Content}
use Rattle.icc_read.specs.declared.content.Content.TheVariants as kind

-- where both aren't true and one is, the other isn't
and_false : (a b : Bool) → (a && b) ≡ false → a ≡ true → b ≡ false
and_false true b h e = h
and_false false b h e = absurd (false≢true e)

not_true : (b : Bool) → not b ≡ true → b ≡ false
not_true true h = sym h
not_true false h = refl

-- which tests of used tags fail for none
record AreUnfailed (bytes : List ℕ) (fails : Content → List ℕ → Bool) : Type 0 where
  forward : any_tag bytes (fails (forward_content bytes)) forward_tags ≡ false
  backward : is_rgb bytes ≡ true → any_tag bytes (fails (backward_content bytes)) backward_tags ≡ false
  columns : (is_rgb bytes && not (is_lab bytes)) ≡ true → any_tag bytes (fails kind.Column) column_tags ≡ false
  curves : (is_rgb bytes && not (is_lab bytes)) ≡ true → any_tag bytes (fails kind.Curve) curve_tags ≡ false
  gray : is_gray bytes ≡ true → any_tag bytes (fails kind.Curve) (gray_tag ∷ []) ≡ false

unfailed : (bytes : List ℕ) (fails : Content → List ℕ → Bool) → any_used bytes fails ≡ false → AreUnfailed bytes fails
unfailed bytes fails h =
    let to = any_tag bytes (fails (forward_content bytes)) forward_tags in
    let from = any_tag bytes (fails (backward_content bytes)) backward_tags in
    let column = any_tag bytes (fails kind.Column) column_tags in
    let curve = any_tag bytes (fails kind.Curve) curve_tags in
    let single = any_tag bytes (fails kind.Curve) (gray_tag ∷ []) in
    let matrix = is_rgb bytes && not (is_lab bytes) in
    let two = to || (is_rgb bytes && from) in
    let three = two || (matrix && column) in
    let four = three || (matrix && curve) in
    let no_four = or_first four (is_gray bytes && single) h in
    let no_three = or_first three (matrix && curve) no_four in
    let no_two = or_first two (matrix && column) no_three in
    record {
      forward = or_first to (is_rgb bytes && from) no_two;
      backward = and_false (is_rgb bytes) from (or_second to (is_rgb bytes && from) no_two);
      columns = and_false matrix column (or_second two (matrix && column) no_three);
      curves = and_false matrix curve (or_second three (matrix && curve) no_four);
      gray = and_false (is_gray bytes) single (or_second four (is_gray bytes && single) h);
    }

types_unfailed : (bytes : List ℕ) → has_wrong_type bytes ≡ false → AreUnfailed bytes has_other_type
unfolding has_wrong_type
types_unfailed bytes h = unfailed bytes has_other_type h

shapes_unfailed : (bytes : List ℕ) → has_misshapen bytes ≡ false → AreUnfailed bytes is_misshapen
unfolding has_misshapen
shapes_unfailed bytes h = unfailed bytes is_misshapen h

-- the transforms to the connection space are
pub forward_sound : (bytes : List ℕ) → IsSound bytes → AreSoundTags bytes (forward_content bytes) forward_tags
forward_sound bytes h = record {
  known = (types_unfailed bytes h.types).forward;
  shape = (shapes_unfailed bytes h.shapes).forward;
}

-- and those from it
pub backward_sound : (bytes : List ℕ) → IsSound bytes → is_rgb bytes ≡ true →
    AreSoundTags bytes (backward_content bytes) backward_tags
backward_sound bytes h rgb = record {
  known = (types_unfailed bytes h.types).backward rgb;
  shape = (shapes_unfailed bytes h.shapes).backward rgb;
}

-- what a whole matrix is
pub record IsMatrix (bytes : List ℕ) : Type 0 where
  pub space : (is_rgb bytes && not (is_lab bytes)) ≡ true
  pub columns : list_all (has_tag bytes) column_tags ≡ true
  pub curves : list_all (has_tag bytes) curve_tags ≡ true

-- a profile with a matrix is of RGB and XYZ, and has all six of its tags
pub matrix_is : (bytes : List ℕ) → has_matrix bytes ≡ true → IsMatrix bytes
unfolding has_matrix
matrix_is bytes h =
    let kinds = is_rgb bytes && not (is_lab bytes) in
    let all_columns = list_all (has_tag bytes) column_tags in
    let all_curves = list_all (has_tag bytes) curve_tags in
    let two = and_first (kinds && all_columns) all_curves h in
    record {
      space = and_first kinds all_columns two;
      columns = and_second kinds all_columns two;
      curves = and_second (kinds && all_columns) all_curves h;
    }

-- the columns of a matrix
pub columns_sound : (bytes : List ℕ) → IsSound bytes → has_matrix bytes ≡ true →
    AreSoundTags bytes kind.Column column_tags
columns_sound bytes h whole = record {
  known = (types_unfailed bytes h.types).columns (matrix_is bytes whole).space;
  shape = (shapes_unfailed bytes h.shapes).columns (matrix_is bytes whole).space;
}

-- its curves
pub curves_sound : (bytes : List ℕ) → IsSound bytes → has_matrix bytes ≡ true →
    AreSoundTags bytes kind.Curve curve_tags
curves_sound bytes h whole = record {
  known = (types_unfailed bytes h.types).curves (matrix_is bytes whole).space;
  shape = (shapes_unfailed bytes h.shapes).curves (matrix_is bytes whole).space;
}

-- the curve of gray is there
pub gray_there : (bytes : List ℕ) → has_gray_curve bytes ≡ true → has_tag bytes gray_tag ≡ true
unfolding has_gray_curve
gray_there bytes h = and_second (is_gray bytes) (has_tag bytes gray_tag) h

-- a profile with a gray curve is of one channel
pub gray_is : (bytes : List ℕ) → has_gray_curve bytes ≡ true → is_gray bytes ≡ true
unfolding has_gray_curve
gray_is bytes h = and_first (is_gray bytes) (has_tag bytes gray_tag) h

-- and is one
pub gray_sound : (bytes : List ℕ) → IsSound bytes → has_gray_curve bytes ≡ true →
    IsSoundTag bytes kind.Curve gray_tag
gray_sound bytes h there = record {
  known = or_first (option_map_or (has_other_type kind.Curve) (tag_of bytes gray_tag) false) false
      ((types_unfailed bytes h.types).gray (gray_is bytes there));
  shape = or_first (option_map_or (is_misshapen kind.Curve) (tag_of bytes gray_tag) false) false
      ((shapes_unfailed bytes h.shapes).gray (gray_is bytes there));
}

-- of three tests that fail none does
first_of : (a b c : Bool) → (a || (b || (c || false))) ≡ false → a ≡ false
first_of a b c h = or_first a (b || (c || false)) h

second_of : (a b c : Bool) → (a || (b || (c || false))) ≡ false → b ≡ false
second_of a b c h = or_first b (c || false) (or_second a (b || (c || false)) h)

third_of : (a b c : Bool) → (a || (b || (c || false))) ≡ false → c ≡ false
third_of a b c h = or_first c false (or_second b (c || false) (or_second a (b || (c || false)) h))

-- whether the tag of a signature is there and fails a test
abbrev fails_at : List ℕ → (List ℕ → Bool) → ℕ → Bool
fails_at bytes test signature = option_map_or test (tag_of bytes signature) false

-- each of three tags that are of their kind is
pub tags_first : (bytes : List ℕ) (content : Content) (a b c : ℕ) → AreSoundTags bytes content (a ∷ b ∷ c ∷ []) →
    IsSoundTag bytes content a
tags_first bytes content a b c h =
    let other = fails_at bytes (has_other_type content) in
    let bad = fails_at bytes (is_misshapen content) in
    record { known = first_of (other a) (other b) (other c) h.known; shape = first_of (bad a) (bad b) (bad c) h.shape }

-- the second of three sound tags is sound
pub tags_second : (bytes : List ℕ) (content : Content) (a b c : ℕ) → AreSoundTags bytes content (a ∷ b ∷ c ∷ []) →
    IsSoundTag bytes content b
tags_second bytes content a b c h =
    let other = fails_at bytes (has_other_type content) in
    let bad = fails_at bytes (is_misshapen content) in
    record {
      known = second_of (other a) (other b) (other c) h.known;
      shape = second_of (bad a) (bad b) (bad c) h.shape;
    }

-- the third of three sound tags is sound
pub tags_third : (bytes : List ℕ) (content : Content) (a b c : ℕ) → AreSoundTags bytes content (a ∷ b ∷ c ∷ []) →
    IsSoundTag bytes content c
tags_third bytes content a b c h =
    let other = fails_at bytes (has_other_type content) in
    let bad = fails_at bytes (is_misshapen content) in
    record { known = third_of (other a) (other b) (other c) h.known; shape = third_of (bad a) (bad b) (bad c) h.shape }

-- each of three signatures that are there is
pub there_first : (bytes : List ℕ) (a b c : ℕ) → list_all (has_tag bytes) (a ∷ b ∷ c ∷ []) ≡ true →
    has_tag bytes a ≡ true
there_first bytes a b c h = and_first (has_tag bytes a) (has_tag bytes b && (has_tag bytes c && true)) h

pub there_second : (bytes : List ℕ) (a b c : ℕ) → list_all (has_tag bytes) (a ∷ b ∷ c ∷ []) ≡ true →
    has_tag bytes b ≡ true
there_second bytes a b c h = and_first (has_tag bytes b) (has_tag bytes c && true)
    (and_second (has_tag bytes a) (has_tag bytes b && (has_tag bytes c && true)) h)

pub there_third : (bytes : List ℕ) (a b c : ℕ) → list_all (has_tag bytes) (a ∷ b ∷ c ∷ []) ≡ true →
    has_tag bytes c ≡ true
there_third bytes a b c h = and_first (has_tag bytes c) true (and_second (has_tag bytes b) (has_tag bytes c && true)
    (and_second (has_tag bytes a) (has_tag bytes b && (has_tag bytes c && true)) h))

-- a list of three transforms that take the channels
pub three_suited : (way is_lab : Bool) (inputs : ℕ) (a b c : Option Transform) →
    IsSuitedTransform way is_lab inputs a → IsSuitedTransform way is_lab inputs b →
    IsSuitedTransform way is_lab inputs c → AreSuited way is_lab inputs (a ∷ b ∷ c ∷ [])
three_suited way is_lab inputs a b c f g h zero = f
three_suited way is_lab inputs a b c f g h (suc zero) = g
three_suited way is_lab inputs a b c f g h (suc (suc zero)) = h
three_suited way is_lab inputs a b c f g h (suc (suc (suc number))) = tt

-- no transforms take any channels
pub none_suited : (way is_lab : Bool) (inputs : ℕ) → AreSuited way is_lab inputs (None ∷ None ∷ None ∷ [])
none_suited way is_lab inputs = three_suited way is_lab inputs None None None tt tt tt
