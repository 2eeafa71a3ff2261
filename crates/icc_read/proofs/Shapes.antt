-- What the tests of a transform's tag say.
use Rattle.std.proofs.Common.{◌≡◌, ◌≤◌, ℕ, Bool, true, false, List, length, slice_index, refl}
use Rattle.std.proofs.Common.{sym, ltb}
use Rattle.std.specs.Prelude.{◌||◌, ◌==◌, not}
use Rattle.std.proofs.lemmas.Bool.{ltb-false, le-leb, eqb-true, false≢true}
use Rattle.proof_words.proofs.Cases.{by_bool}
use Rattle.icc_power.proofs.Shapes.{or_first, or_second}
use Rattle.icc_power.specs.CurveTag.{type_of}
use Rattle.std.proofs.Common.{Option, Some, None}
use Rattle.icc_v4lut.specs.StagesTag.{stages_fault}
use Rattle.icc_v4lut.specs.declared.faults.PartFault.{PartFault}
use Rattle.icc_v4lut.specs.declared.faults.PartFault.TheVariants.{Kind, Shape}
use Rattle.icc_read.specs.Content.{is_stages, is_kind, is_shape}
use Rattle.icc_read.specs.Content.{is_other_transform, is_bad_transform, is_bad_mft1, is_bad_mft2, has_bad_grid}
use Rattle.icc_read.specs.Content.{before_count, after_count, is_bad_count, mft1_size, mft2_size, mft1, mft2}
use Rattle.icc_read.specs.Code.Premises.{IsMft1, IsMft2}

not_false : (b : Bool) → not b ≡ false → b ≡ true
not_false true h = refl
not_false false h = sym h

-- a number that isn't another than one is it
same : (a b : ℕ) → not (a == b) ≡ false → a ≡ b
same a b h = eqb-true a b (not_false (a == b) h)

-- the tests of channels and grid points
channels_first : (inputs : ℕ) (tag : List ℕ) → has_bad_grid inputs tag ≡ false → slice_index tag 8 ≡ inputs
channels_first inputs tag h =
    let in_ = not (slice_index tag 8 == inputs) in
    let out = not (slice_index tag 9 == 3) in
    let few = ltb (slice_index tag 10) 2 in
    same (slice_index tag 8) inputs (or_first in_ out (or_first (in_ || out) few h))

channels_second : (inputs : ℕ) (tag : List ℕ) → has_bad_grid inputs tag ≡ false → slice_index tag 9 ≡ 3
channels_second inputs tag h =
    let in_ = not (slice_index tag 8 == inputs) in
    let out = not (slice_index tag 9 == 3) in
    let few = ltb (slice_index tag 10) 2 in
    same (slice_index tag 9) 3 (or_second in_ out (or_first (in_ || out) few h))

grid_points : (inputs : ℕ) (tag : List ℕ) → has_bad_grid inputs tag ≡ false → 2 ≤ slice_index tag 10
grid_points inputs tag h =
    let in_ = not (slice_index tag 8 == inputs) in
    let out = not (slice_index tag 9 == 3) in
    let few = ltb (slice_index tag 10) 2 in
    ltb-false (slice_index tag 10) 2 (or_second (in_ || out) few h)

-- a lut of 8 bits that isn't bad
mft1_of : (inputs : ℕ) (tag : List ℕ) → is_bad_mft1 inputs tag ≡ false → IsMft1 inputs tag
unfolding is_bad_mft1
mft1_of inputs tag h =
    let short = ltb (length tag) 48 in
    let other = has_bad_grid inputs tag in
    let cut = ltb (length tag) (mft1_size inputs tag) in
    let two = or_first (short || other) cut h in
    let good = or_second short other two in
    record {
      long = ltb-false (length tag) 48 (or_first short other two);
      channels = channels_first inputs tag good;
      outputs = channels_second inputs tag good;
      points = grid_points inputs tag good;
      size = ltb-false (length tag) (mft1_size inputs tag) (or_second (short || other) cut h);
    }

least_count : (count : ℕ) → is_bad_count count ≡ false → 2 ≤ count
least_count count h = ltb-false count 2 (or_first (ltb count 2) (ltb 4096 count) h)

most_count : (count : ℕ) → is_bad_count count ≡ false → count ≤ 4096
most_count count h = ltb-false 4096 count (or_second (ltb count 2) (ltb 4096 count) h)

-- a lut of 16 bits that isn't bad
mft2_of : (inputs : ℕ) (tag : List ℕ) → is_bad_mft2 inputs tag ≡ false → IsMft2 inputs tag
unfolding is_bad_mft2
mft2_of inputs tag h =
    let short = ltb (length tag) 52 in
    let other = has_bad_grid inputs tag in
    let bad_before = is_bad_count (before_count tag) in
    let bad_after = is_bad_count (after_count tag) in
    let cut = ltb (length tag) (mft2_size inputs tag) in
    let four = or_first (short || other || bad_before || bad_after) cut h in
    let three = or_first (short || other || bad_before) bad_after four in
    let two = or_first (short || other) bad_before three in
    let good = or_second short other two in
    record {
      long = ltb-false (length tag) 52 (or_first short other two);
      channels = channels_first inputs tag good;
      outputs = channels_second inputs tag good;
      points = grid_points inputs tag good;
      some_before = least_count (before_count tag) (or_second (short || other) bad_before three);
      few_before = most_count (before_count tag) (or_second (short || other) bad_before three);
      some_after = least_count (after_count tag) (or_second (short || other || bad_before) bad_after four);
      few_after = most_count (after_count tag) (or_second (short || other || bad_before) bad_after four);
      size = ltb-false (length tag) (mft2_size inputs tag)
          (or_second (short || other || bad_before || bad_after) cut h);
    }

-- a transform that isn't misshapen has a type
pub transform_long : (way : Bool) (inputs : ℕ) (tag : List ℕ) → is_bad_transform way inputs tag ≡ false →
    8 ≤ length tag
unfolding is_bad_transform
transform_long way inputs tag h = by_bool (ltb (length tag) 8)
    (λ e. absurd (false≢true (sym (rw e at h))))
    (λ e. ltb-false (length tag) 8 e)

-- stages without a fault
pub no_fault : (fault : Option PartFault) → is_kind fault ≡ false → is_shape fault ≡ false → fault ≡ None
no_fault None h f = refl
no_fault (Some Kind) h f = absurd (false≢true (sym h))
no_fault (Some Shape) h f = absurd (false≢true (sym f))

kind_none : (way : Bool) (inputs : ℕ) (lab : Bool) (tag : List ℕ) → 8 ≤ length tag →
    is_other_transform way inputs lab tag ≡ false → is_stages way tag ≡ true →
    is_kind (stages_fault inputs tag) ≡ false
unfolding is_other_transform
kind_none way inputs lab tag long h stages = rw (le-leb 8 (length tag) long, stages) at h

shape_none : (way : Bool) (inputs : ℕ) (tag : List ℕ) → is_bad_transform way inputs tag ≡ false →
    is_stages way tag ≡ true → is_shape (stages_fault inputs tag) ≡ false
unfolding is_bad_transform
shape_none way inputs tag h stages = by_bool (ltb (length tag) 8)
    (λ e. absurd (false≢true (sym (rw e at h))))
    (λ e. rw (e, stages) at h)

-- where the type of a transform is that of stages, it has those
pub stages_good : (way : Bool) (inputs : ℕ) (lab : Bool) (tag : List ℕ) →
    is_other_transform way inputs lab tag ≡ false → is_bad_transform way inputs tag ≡ false →
    is_stages way tag ≡ true → stages_fault inputs tag ≡ None
stages_good way inputs lab tag h f stages = no_fault (stages_fault inputs tag)
    (kind_none way inputs lab tag (transform_long way inputs tag f) h stages) (shape_none way inputs tag f stages)

-- where that is `mft2`, it is a lut of 16 bits
pub mft2_is : (way : Bool) (inputs : ℕ) (tag : List ℕ) → is_bad_transform way inputs tag ≡ false →
    is_stages way tag ≡ false → (type_of tag == mft2) ≡ true → IsMft2 inputs tag
unfolding is_bad_transform
mft2_is way inputs tag h other wide = by_bool (ltb (length tag) 8)
    (λ e. absurd (false≢true (sym (rw e at h))))
    (λ e. mft2_of inputs tag (rw (e, other, wide) at h))

-- else it is one of 8 bits
pub mft1_is : (way : Bool) (inputs : ℕ) (tag : List ℕ) → is_bad_transform way inputs tag ≡ false →
    is_stages way tag ≡ false → (type_of tag == mft2) ≡ false → IsMft1 inputs tag
unfolding is_bad_transform
mft1_is way inputs tag h other wide = by_bool (ltb (length tag) 8)
    (λ e. absurd (false≢true (sym (rw e at h))))
    (λ e. mft1_of inputs tag (rw (e, other, wide) at h))

-- and of the connection space Lab
pub mft1_lab : (way : Bool) (inputs : ℕ) (is_lab : Bool) (tag : List ℕ) → 8 ≤ length tag →
    is_other_transform way inputs is_lab tag ≡ false → is_stages way tag ≡ false → (type_of tag == mft2) ≡ false →
    is_lab ≡ true
unfolding is_other_transform
mft1_lab way inputs true tag long h other wide = refl
mft1_lab way inputs false tag long h other wide =
    absurd (by_bool (type_of tag == mft1)
    (λ e. false≢true (sym (rw (le-leb 8 (length tag) long, other, wide, e) at h)))
    (λ e. false≢true (sym (rw (le-leb 8 (length tag) long, other, wide, e) at h))))
