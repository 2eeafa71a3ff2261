-- The parts of a profile fit together.
use Rattle.std.proofs.Common.{◌≡◌, ◌≢◌, ℕ, zero, suc, Bool, true, false, List, [], ◌∷◌, refl, sym, Option, Some, None}
use Rattle.std.proofs.Common.{inl, inr, subst}
use Rattle.std.specs.Prelude.{◌||◌, not, option_map, is_some}
use Rattle.std.proofs.lemmas.Bool.{false≢true, eqb-true}
use Rattle.std.proofs.lemmas.Option.{none-some}
use Rattle.proof_words.proofs.Cases.{by_bool}
use Rattle.proof_words.proofs.Tests.{and_first, and_second}
use Rattle.icc_model.specs.Profile.{IsProfile, IsBase, nth}
use Rattle.icc_model.specs.declared.profile.Base.{Base}
use Rattle.icc_model.specs.declared.profile.Transform.{Transform}
use Rattle.icc_read.specs.Table.{entry_of, bytes_of, tag_of, space_field, rgb}
use Rattle.icc_read.specs.Tags.{has_tag, has_matrix, has_gray_curve, is_rgb, is_gray, is_lab, channels_of}
use Rattle.icc_read.specs.Faults.{is_no_source}
use Rattle.icc_read.specs.Read.{base_of, forward_of, backward_of, transform_of}
use Rattle.icc_read.specs.Code.Premises.{IsSound, IsChannels, AreSuited}
use Rattle.icc_read.proofs.Sound.{matrix_is, gray_is}

-- RGB has three channels
pub channels_rgb : (bytes : List ℕ) → is_rgb bytes ≡ true → channels_of bytes ≡ 3
channels_rgb bytes e = by_bool (is_gray bytes)
    (λ g. absurd (false≢true (rw (eqb-true (space_field bytes) rgb e) at g)))
    (λ g. rw (g, e) refl)

-- and GRAY one
pub channels_gray : (bytes : List ℕ) → is_gray bytes ≡ true → channels_of bytes ≡ 1
channels_gray bytes e = rw e refl

pub channels_some : (bytes : List ℕ) → IsChannels (channels_of bytes)
channels_some bytes = by_bool (is_gray bytes)
    (λ g. rw g (inl refl))
    (λ g. by_bool (is_rgb bytes) (λ e. rw (g, e) (inr (inl refl))) (λ e. rw (g, e) (inr (inr refl))))

not_true : (b : Bool) → not b ≡ true → b ≡ false
not_true true h = sym h
not_true false h = refl

not_false : (b : Bool) → not b ≡ false → b ≡ true
not_false true h = refl
not_false false h = sym h

-- a matrix is of RGB and XYZ, a curve of gray of GRAY
base_suited : (bytes : List ℕ) → IsBase (is_lab bytes) (channels_of bytes) (base_of bytes)
unfolding base_of
base_suited bytes = by_bool (has_matrix bytes)
    (λ e. let kinds = (matrix_is bytes e).space in
    rw e (
      channels_rgb bytes (and_first (is_rgb bytes) (not (is_lab bytes)) kinds),
      not_true (is_lab bytes) (and_second (is_rgb bytes) (not (is_lab bytes)) kinds),
    ))
    (λ e. by_bool (has_gray_curve bytes)
    (λ f. rw (e, f) (channels_gray bytes (gray_is bytes f)))
    (λ f. rw (e, f) tt))

some_is : (b : Base) → Some b ≢ None
some_is b e = none-some b (sym e)

or_left : (a b : Bool) → (a || b) ≡ true → a ≡ false → b ≡ true
or_left true b h e = absurd (false≢true (sym e))
or_left false b h e = h

-- one of both is there
base_there : (bytes : List ℕ) → (has_matrix bytes || has_gray_curve bytes) ≡ true → base_of bytes ≢ None
unfolding base_of
base_there bytes h none = by_bool (has_matrix bytes)
    (λ e. some_is _ (rw e at none))
    (λ e. some_is _ (rw (e, or_left (has_matrix bytes) (has_gray_curve bytes) h e) at none))

-- a profile without its first transform has one of both
source_there : (bytes : List ℕ) → is_no_source bytes ≡ false → has_tag bytes 0x41324230 ≡ false →
    (has_matrix bytes || has_gray_curve bytes) ≡ true
unfolding is_no_source
source_there bytes h none =
    rw none at (not_false (has_tag bytes 0x41324230 || has_matrix bytes || has_gray_curve bytes) h)

none_of : {A B C : Type 0} (f : A → B) (g : B → C) (o : Option A) → option_map g (option_map f o) ≡ None →
    is_some o ≡ false
none_of f g None h = refl
none_of f g (Some x) h = absurd (none-some (g (f x)) (sym h))

no_tag : (bytes : List ℕ) (inputs signature : ℕ) →
    option_map (transform_of true inputs) (tag_of bytes signature) ≡ None → has_tag bytes signature ≡ false
no_tag bytes inputs signature h = none_of (bytes_of bytes) (transform_of true inputs) (entry_of bytes signature) h

-- no transform is there
no_transform : (number : ℕ) → nth (None ∷ None ∷ None ∷ []) number ≡ None
no_transform zero = refl
no_transform (suc zero) = refl
no_transform (suc (suc zero)) = refl
no_transform (suc (suc (suc number))) = refl

backward_rgb : (bytes : List ℕ) (number : ℕ) → nth (backward_of bytes) number ≢ None → channels_of bytes ≡ 3
backward_rgb bytes number h = by_bool (is_rgb bytes)
    (λ e. channels_rgb bytes e)
    (λ e. absurd (h (rw e (no_transform number))))

-- the parts are those of a profile
pub whole_profile : (bytes taken : List ℕ) → IsSound bytes →
    AreSuited true (is_lab bytes) (channels_of bytes) (forward_of bytes) →
    AreSuited false (is_lab bytes) 3 (backward_of bytes) →
    IsProfile (record {
      bytes = taken;
      lab = is_lab bytes;
      channels = channels_of bytes;
      base = base_of bytes;
      forward = forward_of bytes;
      backward = backward_of bytes;
    })
whole_profile bytes taken h to from = record {
  channels = channels_some bytes;
  forward = to;
  backward = from;
  rgb = backward_rgb bytes;
  base = base_suited bytes;
  some = λ none. base_there bytes (source_there bytes h.source (no_tag bytes (channels_of bytes) 0x41324230 none));
}

-- so are equal ones
pub parts_fit : (bytes taken : List ℕ) (lab : Bool) (channels : ℕ) (base : Option Base)
    (forward backward : List (Option Transform)) → IsSound bytes → lab ≡ is_lab bytes →
    channels ≡ channels_of bytes → base ≡ base_of bytes → forward ≡ forward_of bytes → backward ≡ backward_of bytes →
    AreSuited true (is_lab bytes) (channels_of bytes) forward → AreSuited false (is_lab bytes) 3 backward →
    IsProfile (record {
      bytes = taken;
      lab = lab;
      channels = channels;
      base = base;
      forward = forward;
      backward = backward;
    })
parts_fit bytes taken lab channels base forward backward h lab_is channels_is base_is to_is from_is to from =
    rw (lab_is, channels_is, base_is, to_is, from_is) (whole_profile bytes taken h
    (subst (λ (ts : List (Option Transform)). AreSuited true (is_lab bytes) (channels_of bytes) ts) to_is to)
    (subst (λ (ts : List (Option Transform)). AreSuited false (is_lab bytes) 3 ts) from_is from))
