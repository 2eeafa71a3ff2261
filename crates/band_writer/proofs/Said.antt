-- What the commands of a list say is the marks that it holds.
use Rattle.std.proofs.Common.{◌≡◌, ℕ, zero, suc, ◌+◌, Bool, true, false, cond, eqb, not, ◌&&◌, ◌||◌, List, [], ◌∷◌}
use Rattle.std.proofs.Common.{◌++◌, length}
use Rattle.std.proofs.Common.{Option, Some, None, refl, sym, ap, ◌∙◌, inl, inr, subst, arith, append_assoc}
use Rattle.std.proofs.Common.{length-append, map}
use Rattle.std.specs.Cmp.Lexicographic.{pointwise}
use Rattle.std.specs.Prelude.{IfSome}
use Rattle.std.specs.List.{filter, flat_map, slice_get, AllByRecursion}
use Rattle.std.proofs.lemmas.Bool.{cases_Bool, and_parts, or_cases, eqb-true, not-true, false≢true}
use Rattle.std.proofs.lemmas.Bool.Decides.{Decides-eqb}
use Rattle.std.proofs.lemmas.List.{append-nil}
use Rattle.std.proofs.lemmas.Slice.Eq.{slice_eq-Decides}
use Rattle.press_fault.specs.Plane.{CodeValue}
use Rattle.page_model.specs.Image.{ImageValue}
use Rattle.page_model.specs.Marking.{RegionValue, MarkValue, PaintValue, Flatly, Pictured, Masked}
use Rattle.page_model.specs.Page.{HasClipOfNumber}
use Rattle.page_model.specs.declared.mark.Ink.{Ink}
use Rattle.page_model.specs.declared.mark.Ink.TheVariants.{Plain, Linked}
use Rattle.list_codec.specs.Command.{CmdValue, Inked, Clipped}
use Rattle.band_writer.specs.Bands.{PlacedMark, placed_at, placed_from, held_marks, images_of, mark_images}
use Rattle.band_writer.specs.Bands.{paint_images}
use Rattle.band_writer.specs.Listing.{Told, opening, same_code, same_ink, same_number, has_regions, is_clip_told}
use Rattle.band_writer.specs.Listing.{needed_ink}
use Rattle.band_writer.specs.Listing.{ink_cmds, clip_cmds, change_cmds, paint_cmd, painting_cmd, with_ink, with_clip}
use Rattle.band_writer.specs.Listing.{told_after, list_cmds}
use Rattle.band_writer.specs.Said.{marks_said, as_said, without_number}

made_code : ℕ → List ℕ → CodeValue
made_code n c = record { n = n; c = c }

-- codes that are told to be one are one
code_is : (a b : CodeValue) → same_code a b ≡ true → a ≡ b
unfolding made_code
code_is a b h =
    let parts = and_parts (eqb a.n b.n) (pointwise eqb a.c b.c) h in
    let n : a.n ≡ b.n = eqb-true a.n b.n parts.0 in
    let c : a.c ≡ b.c = (slice_eq-Decides Decides-eqb a.c b.c (pointwise eqb a.c b.c) refl).0 parts.1 in
    ap (λ k. made_code k a.c) n ∙ ap (λ v. made_code b.n v) c

-- inks that are told to be one are one
pub ink_is : (a b : Ink) → same_ink a b ≡ true → a ≡ b
ink_is (Plain a) (Plain b) h = ap (λ c. Plain c) (code_is a b h)
ink_is (Plain a) (Linked source b) h = absurd (false≢true h)
ink_is (Linked source a) (Plain b) h = absurd (false≢true h)
ink_is (Linked source a) (Linked other b) h =
    let parts = and_parts (eqb source other) (same_code a b) h in
    ap (λ k. Linked k a) (eqb-true source other parts.0) ∙ ap (λ c. Linked other c) (code_is a b parts.1)

-- a clip is in force that is what was told of it
record Agrees (clip_of : ℕ → List RegionValue) (told : Told) (clip : List RegionValue) : Type 0 where
  cuts : told.cuts ≡ has_regions clip
  number : IfSome told.number (λ n. clip ≡ clip_of n)

no_regions : (clip : List RegionValue) → has_regions clip ≡ false → clip ≡ []
no_regions [] h = refl
no_regions (region ∷ clip) h = absurd (false≢true (sym h))

one_clip : (clip_of : ℕ → List RegionValue) (a b : Option ℕ) (left right : List RegionValue) → same_number a b ≡ true
    → IfSome a (λ n. left ≡ clip_of n) → IfSome b (λ n. right ≡ clip_of n) → left ≡ right
one_clip clip_of (Some a) (Some b) left right h first second =
    first ∙ ap (λ n. clip_of n) (eqb-true a b h) ∙ sym second
one_clip clip_of (Some a) None left right h first second = absurd (false≢true h)
one_clip clip_of None b left right h first second = absurd (false≢true h)

-- the clip that was told is that of the mark
told_clip : (clip_of : ℕ → List RegionValue) (told : Told) (mark : MarkValue) (clip : List RegionValue)
    → Agrees clip_of told clip → HasClipOfNumber clip_of mark → is_clip_told told mark ≡ true → clip ≡ mark.clip
told_clip clip_of told mark clip agrees numbered h =
    elim (or_cases (not told.cuts && not (has_regions mark.clip)) (same_number told.number mark.clip_number) h) [
      | inl none ↦
          let parts = and_parts (not told.cuts) (not (has_regions mark.clip)) none in
          no_regions clip (sym agrees.cuts ∙ not-true told.cuts parts.0)
          ∙ sym (no_regions mark.clip (not-true (has_regions mark.clip) parts.1))
      | inr same ↦ one_clip clip_of told.number mark.clip_number clip mark.clip same agrees.number numbered
    ]

-- after an ink was said, it is in force
ink_said : (images : List ImageValue) (told : Told) (ink : Option Ink) (clip : List RegionValue) (cmds : List CmdValue)
    → marks_said images told.ink clip (ink_cmds told.ink ink ++ cmds)
    ≡ marks_said images (with_ink told ink).ink clip cmds
unfolding marks_said
ink_said images told None clip cmds = refl
ink_said images told (Some ink) clip cmds = elim (cases_Bool (same_ink told.ink ink)) [
  | inl same ↦ rw same (ap (λ i. marks_said images i clip cmds) (ink_is told.ink ink same))
  | inr other ↦ rw other refl
]

-- after a mark's clip was said, it is in force
clip_said : (images : List ImageValue) (clip_of : ℕ → List RegionValue) (told : Told) (ink : Ink) (mark : MarkValue)
    (clip : List RegionValue) (cmds : List CmdValue) → Agrees clip_of told clip → HasClipOfNumber clip_of mark
    → marks_said images ink clip (clip_cmds told mark ++ cmds) ≡ marks_said images ink mark.clip cmds
unfolding marks_said
clip_said images clip_of told ink mark clip cmds agrees numbered = elim (cases_Bool (is_clip_told told mark)) [
  | inl same ↦ rw same (ap (λ (r : List RegionValue). marks_said images ink r cmds)
      (told_clip clip_of told mark clip agrees numbered same))
  | inr other ↦ rw other refl
]

-- and it is what was told of it
still_agrees : (clip_of : ℕ → List RegionValue) (told : Told) (mark : MarkValue) (clip : List RegionValue)
    → Agrees clip_of told clip → HasClipOfNumber clip_of mark → Agrees clip_of (with_clip told mark) mark.clip
still_agrees clip_of told mark clip agrees numbered = elim (cases_Bool (is_clip_told told mark)) [
  | inl same ↦
      let e : clip ≡ mark.clip = told_clip clip_of told mark clip agrees numbered same in
      rw same (subst (λ (r : List RegionValue). Agrees clip_of told r) e agrees)
  | inr other ↦ rw other (record { cuts = refl; number = numbered })
]

ink_agrees : (clip_of : ℕ → List RegionValue) (told : Told) (ink : Option Ink) (clip : List RegionValue)
    → Agrees clip_of told clip → Agrees clip_of (with_ink told ink) clip
ink_agrees clip_of told None clip agrees = agrees
ink_agrees clip_of told (Some ink) clip agrees = record { cuts = agrees.cuts; number = agrees.number }

with_clip_ink : (told : Told) (mark : MarkValue) → (with_clip told mark).ink ≡ told.ink
with_clip_ink told mark = elim (cases_Bool (is_clip_told told mark)) [
  | inl same ↦ rw same refl
  | inr other ↦ rw other refl
]

-- the item behind so many others
behind : {X : Type 0} (before : List X) (x : X) (after : List X) → slice_get (before ++ x ∷ after)
    (length before) ≡ Some x
behind [] x after = refl
behind (y ∷ before) x after = behind before x after

-- the command that paints a mark says it, with the ink and the clip that it needs
paint_said : (images before after : List ImageValue) (told : Told) (mark : MarkValue) (paint : PaintValue)
    (cmds : List CmdValue) → images ≡ before ++ (paint_images paint ++ after)
    → marks_said images (with_ink told (needed_ink paint)).ink mark.clip (paint_cmd (length before) mark paint ∷ cmds)
    ≡ as_said mark paint ∷ marks_said images (with_ink told (needed_ink paint)).ink mark.clip cmds
unfolding marks_said
paint_said images before after told mark (Flatly ink) cmds is = refl
paint_said images before after told mark (Pictured image) cmds is =
    let found : slice_get images (length before) ≡ Some image =
    ap (λ all. slice_get all (length before)) is ∙ behind before image after in
    rw found refl
paint_said images before after told mark (Masked image ink) cmds is =
    let found : slice_get images (length before) ≡ Some image =
    ap (λ all. slice_get all (length before)) is ∙ behind before image after in
    rw found refl

-- one mark, and what follows it
mark_said : (images before after : List ImageValue) (clip_of : ℕ → List RegionValue) (told : Told) (mark : MarkValue)
    (clip : List RegionValue) (cmds : List CmdValue) → images ≡ before ++ (mark_images mark ++ after)
    → Agrees clip_of told clip → HasClipOfNumber clip_of mark
    → marks_said images told.ink clip
    ((change_cmds told mark ++ painting_cmd (placed_at (length before) mark) ∷ []) ++ cmds)
    ≡ without_number mark ∷ marks_said images (told_after told mark).ink mark.clip cmds
unfolding change_cmds told_after
mark_said images before after clip_of told mark clip cmds is agrees numbered =
    let next : Told = with_ink told (needed_ink mark.paint) in
    let paint : CmdValue = painting_cmd (placed_at (length before) mark) in
    let inks : List CmdValue = ink_cmds told.ink (needed_ink mark.paint) in
    let clips : List CmdValue = clip_cmds next mark in
    let order : ((inks ++ clips) ++ paint ∷ []) ++ cmds ≡ inks ++ (clips ++ (paint ∷ cmds)) =
    append_assoc (inks ++ clips) (paint ∷ []) cmds ∙ append_assoc inks clips (paint ∷ cmds) in
    ap (λ cs. marks_said images told.ink clip cs) order
    ∙ ink_said images told (needed_ink mark.paint) clip (clips ++ (paint ∷ cmds))
    ∙ clip_said images clip_of next next.ink mark clip (paint ∷ cmds)
    (ink_agrees clip_of told (needed_ink mark.paint) clip agrees) numbered
    ∙ paint_said images before after told mark mark.paint cmds is
    ∙ ap (λ i. without_number mark ∷ marks_said images i mark.clip cmds) (sym (with_clip_ink next mark))

-- what is told after a mark agrees with its clip
after_agrees : (clip_of : ℕ → List RegionValue) (told : Told) (mark : MarkValue) (clip : List RegionValue)
    → Agrees clip_of told clip → HasClipOfNumber clip_of mark → Agrees clip_of (told_after told mark) mark.clip
unfolding told_after
after_agrees clip_of told mark clip agrees numbered =
    still_agrees clip_of (with_ink told (needed_ink mark.paint)) mark clip
    (ink_agrees clip_of told (needed_ink mark.paint) clip agrees) numbered

is_held : (MarkValue → Bool) → PlacedMark → Bool
is_held holds placed = holds placed.mark

all_said : (images before : List ImageValue) (clip_of : ℕ → List RegionValue) (holds : MarkValue → Bool)
    (marks : List MarkValue) (told : Told) (clip : List RegionValue) → images ≡ before ++ images_of marks
    → Agrees clip_of told clip → AllByRecursion (HasClipOfNumber clip_of) marks
    → marks_said images told.ink clip
    (list_cmds told (filter (λ (placed : PlacedMark). holds placed.mark) (placed_from (length before) marks)))
    ≡ map without_number (filter holds marks)
unfolding marks_said list_cmds placed_from images_of
all_said images before clip_of holds [] told clip is agrees numbered = refl
all_said images before clip_of holds (mark ∷ marks) told clip is agrees numbered =
    let long : length before + length (mark_images mark) ≡ length (before ++ mark_images mark) =
    sym (length-append before (mark_images mark)) in
    let next : images ≡ (before ++ mark_images mark) ++ images_of marks =
    is ∙ sym (append_assoc before (mark_images mark) (images_of marks)) in
    let test : PlacedMark → Bool = λ placed. holds placed.mark in
    elim (cases_Bool (holds mark)) [
      | inl held ↦ rw (held, long) (
          mark_said images before (images_of marks) clip_of told mark clip
          (list_cmds (told_after told mark) (filter test (placed_from (length (before ++ mark_images mark)) marks)))
          is agrees numbered.0
          ∙ ap (λ ms. without_number mark ∷ ms) (all_said images (before ++ mark_images mark) clip_of holds marks
          (told_after told mark) mark.clip next (after_agrees clip_of told mark clip agrees numbered.0) numbered.1))
      | inr left ↦ rw (left, long) (
          all_said images (before ++ mark_images mark) clip_of holds marks told clip next agrees numbered.1)
    ]

-- a list says the marks that it holds
pub list_says : (clip_of : ℕ → List RegionValue) (holds : MarkValue → Bool) (marks : List MarkValue)
    → AllByRecursion (HasClipOfNumber clip_of) marks
    → marks_said (images_of marks) opening.ink [] (list_cmds opening (held_marks holds marks))
    ≡ map without_number (filter holds marks)
unfolding held_marks
list_says clip_of holds marks numbered =
    all_said (images_of marks) [] clip_of holds marks opening [] refl (record { cuts = refl; number = tt }) numbered
