-- The numbers of clips.
use Rattle.std.proofs.Common.{◌≡◌, ◌≤◌, ◌+◌, ℕ, refl, sym, ◌∙◌, ap, arith, Bool, true}
use Rattle.std.proofs.Common.{false, zero, suc, List, [], ◌∷◌, All, Option, Some, None, reverse, take, slice_get, subst}
use Rattle.std.specs.Prelude.{nat_le, nat_lt, if◌then◌else◌}
use Rattle.std.specs.Option.{IfSome}
use Rattle.std.proofs.lemmas.Bool.{le-leb, lt-leb}
use Rattle.std.proofs.lemmas.List.Elements.{All-weaker, All-head, All-tail, All-take, All-nil}
use Rattle.std.proofs.lemmas.List.Sorted.{IsPermutation-reverse, All-permutation}
use Rattle.page_model.specs.Marking.{RegionValue, MarkValue}
use Rattle.page_model.specs.Page.{HasClipOfNumber, HaveNumberedClips}
use Rattle.gfx_state.specs.Graphics.{StateValue, next_count, next_number, first_above, up_to_first_above}
use Rattle.gfx_state.specs.Keeping.{IsClipOfNumber, IsStateNumbered, IsMarkNumbered, AreClipsNumbered}

-- the clips of numbers up to a count, and another clip for greater ones
abbrev extended : (ℕ → List RegionValue) → ℕ → List RegionValue → ℕ → List RegionValue
extended clip_of clips clip n = if nat_le n clips then clip_of n else clip

as_before : (clip_of : ℕ → List RegionValue) (clips : ℕ) (clip : List RegionValue) (n : ℕ) → n ≤ clips →
    extended clip_of clips clip n ≡ clip_of n
as_before clip_of clips clip n few = ap (λ b. if b then clip_of n else clip) (le-leb n clips few)

at_next : (clip_of : ℕ → List RegionValue) (clips : ℕ) (clip : List RegionValue) →
    extended clip_of clips clip (clips + 1) ≡ clip
at_next clip_of clips clip = ap (λ b. if b then clip_of (clips + 1) else clip) (lt-leb (clips + 1) clips (omega arith))

still : (clip_of : ℕ → List RegionValue) (clips : ℕ) (clip : List RegionValue) (number : Option ℕ)
    (old : List RegionValue) → IsClipOfNumber clip_of clips number old →
    IsClipOfNumber (extended clip_of clips clip) (clips + 1) number old
still clip_of clips clip None old h = tt
still clip_of clips clip (Some n) old h = (omega (arith, h.0), h.1 ∙ sym (as_before clip_of clips clip n h.0))

with_next : (clips : ℕ) (number : Option ℕ) (old clip : List RegionValue) (saved : List StateValue)
    (marks : List MarkValue) → AreClipsNumbered clips number old saved marks →
    AreClipsNumbered (clips + 1) (Some (clips + 1)) clip saved marks
with_next clips number old clip saved marks h = record {
  clip_of = extended h.clip_of clips clip;
  whole = as_before h.clip_of clips clip 0 (omega arith) ∙ h.whole;
  current = (omega arith, sym (at_next h.clip_of clips clip));
  copies = All-weaker (IsStateNumbered h.clip_of clips)
      (IsStateNumbered (extended h.clip_of clips clip) (clips + 1))
      (λ s. still h.clip_of clips clip s.clip_number s.clip) saved h.copies;
  painted = All-weaker (IsMarkNumbered h.clip_of clips)
      (IsMarkNumbered (extended h.clip_of clips clip) (clips + 1))
      (λ m. still h.clip_of clips clip m.clip_number m.clip) marks h.painted;
}

with_none : (clips : ℕ) (number : Option ℕ) (old clip : List RegionValue) (saved : List StateValue)
    (marks : List MarkValue) → AreClipsNumbered clips number old saved marks →
    AreClipsNumbered clips None clip saved marks
with_none clips number old clip saved marks h = record {
  clip_of = h.clip_of;
  whole = h.whole;
  current = tt;
  copies = h.copies;
  painted = h.painted;
}

by_room : (b : Bool) (clips : ℕ) (number : Option ℕ) (old clip : List RegionValue) (saved : List StateValue)
    (marks : List MarkValue) → AreClipsNumbered clips number old saved marks →
    AreClipsNumbered (if b then clips + 1 else clips) (if b then Some (clips + 1) else None) clip saved marks
by_room true clips number old clip saved marks h = with_next clips number old clip saved marks h
by_room false clips number old clip saved marks h = with_none clips number old clip saved marks h

-- another clip
pub with_new : (clips : ℕ) (number : Option ℕ) (old clip : List RegionValue) (saved : List StateValue)
    (marks : List MarkValue) → AreClipsNumbered clips number old saved marks →
    AreClipsNumbered (next_count clips) (next_number clips) clip saved marks
with_new clips number old clip saved marks h = by_room (nat_lt clips 4294967294) clips number old clip saved marks h

-- the whole page as the clip
pub with_whole : (clips : ℕ) (number : Option ℕ) (old : List RegionValue) (saved : List StateValue)
    (marks : List MarkValue) → AreClipsNumbered clips number old saved marks →
    AreClipsNumbered clips (Some 0) [] saved marks
with_whole clips number old saved marks h = record {
  clip_of = h.clip_of;
  whole = h.whole;
  current = (omega arith, sym h.whole);
  copies = h.copies;
  painted = h.painted;
}

-- no clip but the whole page
pub at_first : AreClipsNumbered 0 (Some 0) [] [] []
at_first = record {
  clip_of = λ _. [];
  whole = refl;
  current = (omega arith, refl);
  copies = All-nil (IsStateNumbered (λ _. []) 0);
  painted = All-nil (IsMarkNumbered (λ _. []) 0);
}

with_last : (clips : ℕ) (number : Option ℕ) (clip : List RegionValue) (state : StateValue)
    (saved : List StateValue) (marks : List MarkValue) → AreClipsNumbered clips number clip (state ∷ saved) marks →
    AreClipsNumbered clips state.clip_number state.clip saved marks
with_last clips number clip state saved marks h = record {
  clip_of = h.clip_of;
  whole = h.whole;
  current = All-head (IsStateNumbered h.clip_of clips) state saved h.copies;
  copies = All-tail (IsStateNumbered h.clip_of clips) state saved h.copies;
  painted = h.painted;
}

-- the state saved last, which isn't saved any more
pub with_popped : (clips : ℕ) (number : Option ℕ) (clip : List RegionValue) (state : StateValue)
    (saved left : List StateValue) (marks : List MarkValue) → saved ≡ state ∷ left →
    AreClipsNumbered clips number clip saved marks → AreClipsNumbered clips state.clip_number state.clip left marks
with_popped clips number clip state saved left marks is h = with_last clips number clip state left marks
    (subst (λ s. AreClipsNumbered clips number clip s marks) is h)

backwards : (P : StateValue → Type 0) (saved : List StateValue) → All P saved → All P (reverse saved)
backwards P saved h = All-permutation P saved (reverse saved) (IsPermutation-reverse saved) h

one_has : (P : StateValue → Type 0) (saved : List StateValue) (n : ℕ) → All P saved → IfSome (slice_get saved n) P
one_has P [] n h = tt
one_has P (state ∷ saved) zero h = All-head P state saved h
one_has P (state ∷ saved) (suc n) h = one_has P saved n (All-tail P state saved h)

-- the state saved first above so many, which stays saved with these
pub with_first : (floor clips : ℕ) (number : Option ℕ) (clip : List RegionValue) (saved : List StateValue)
    (marks : List MarkValue) (state : StateValue) → Some state ≡ first_above floor saved →
    AreClipsNumbered clips number clip saved marks →
    AreClipsNumbered clips state.clip_number state.clip (up_to_first_above floor saved) marks
with_first floor clips number clip saved marks state first h =
    let P : StateValue → Type 0 = IsStateNumbered h.clip_of clips in
    let all : All P (reverse saved) = backwards P saved h.copies in
    record {
      clip_of = h.clip_of;
      whole = h.whole;
      current = subst (λ o. IfSome o P) (sym first) (one_has P (reverse saved) floor all);
      copies = backwards P (take (floor + 1) (reverse saved)) (All-take P (floor + 1) (reverse saved) all);
      painted = h.painted;
    }

unbounded : (clip_of : ℕ → List RegionValue) (clips : ℕ) (number : Option ℕ) (clip : List RegionValue) →
    IsClipOfNumber clip_of clips number clip → IfSome number (λ n. clip ≡ clip_of n)
unbounded clip_of clips None clip h = tt
unbounded clip_of clips (Some n) clip h = h.1

-- marks of one clip number have one clip
pub marks_numbered : (clips : ℕ) (number : Option ℕ) (clip : List RegionValue) (saved : List StateValue)
    (marks : List MarkValue) → AreClipsNumbered clips number clip saved marks → HaveNumberedClips marks
marks_numbered clips number clip saved marks h = record {
  clip_of = h.clip_of;
  each = All-weaker (IsMarkNumbered h.clip_of clips) (HasClipOfNumber h.clip_of)
      (λ m. unbounded h.clip_of clips m.clip_number m.clip) marks h.painted;
}
