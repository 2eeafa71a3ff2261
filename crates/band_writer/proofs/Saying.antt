-- A draft after an ink, a clip and a mark.
use Rattle.std.proofs.Common.{◌≡◌, ℕ, Bool, true, false, List, [], ◌∷◌, ◌++◌, Option, Some, None, Result, Ok, Err}
use Rattle.std.proofs.Common.{refl, sym, ap, ◌∙◌}
use Rattle.std.proofs.Common.{subst, append_assoc}
use Rattle.std.specs.Prelude.{OnOk}
use Rattle.std.specs.List.{AllByRecursion}
use Rattle.std.proofs.lemmas.List.{append-nil}
use Rattle.page_model.specs.Marking.{MarkValue}
use Rattle.page_model.specs.declared.mark.Ink.{Ink}
use Rattle.list_codec.specs.Command.{CmdValue, Inked, Clipped, IsCmd}
use Rattle.list_codec.specs.Spelling.{cmd_bytes}
use Rattle.band_writer.specs.Bands.{mark_source}
use Rattle.band_writer.specs.Listing.{Told, same_ink, has_regions, is_clip_told, needed_ink, ink_cmds, clip_cmds}
use Rattle.band_writer.specs.Listing.{change_cmds}
use Rattle.band_writer.specs.Listing.{with_ink, with_clip, told_after, spelled}
use Rattle.band_writer.specs.Code.Drafts.{DraftValue, with_said, needs_after, draft_after}
use Rattle.band_writer.proofs.Held.{all_joined, spelled_joined, spelled_one}
use Rattle.band_writer.proofs.Said.{ink_is}

made_draft : List ℕ → List ℕ → Told → DraftValue
made_draft list needs told = record { list = list; needs = needs; told = told }

-- drafts of the same parts are one
same_draft : (a b : DraftValue) → a.list ≡ b.list → a.needs ≡ b.needs → a.told ≡ b.told → a ≡ b
unfolding made_draft
same_draft a b list needs told =
    ap (λ l. made_draft l a.needs a.told) list ∙ ap (λ n. made_draft b.list n a.told) needs
    ∙ ap (λ t. made_draft b.list b.needs t) told

-- nothing was said
unsaid : (draft : DraftValue) (cmds : List CmdValue) (told : Told) → cmds ≡ [] → told ≡ draft.told
    → draft ≡ with_said draft cmds told
unfolding spelled
unsaid draft cmds told none same =
    same_draft draft (with_said draft cmds told)
    (sym (append-nil draft.list) ∙ ap (λ cs. draft.list ++ spelled cs) (sym none)) refl (sym same)

-- one command was said
said_one : (draft seen new : DraftValue) (cmds : List CmdValue) (cmd : CmdValue) (told : Told) → seen ≡ draft
    → cmds ≡ cmd ∷ [] → new.list ≡ seen.list ++ cmd_bytes cmd → new.needs ≡ seen.needs → new.told ≡ told
    → new ≡ with_said draft cmds told
said_one draft seen new cmds cmd told is one list needs same =
    same_draft new (with_said draft cmds told)
    (list ∙ ap (λ (d : DraftValue). d.list ++ cmd_bytes cmd) is
    ∙ ap (λ (b : List ℕ). draft.list ++ b) (sym (ap (λ cs. spelled cs) one ∙ spelled_one cmd)))
    (needs ∙ ap (λ (d : DraftValue). d.needs) is) same

-- no ink is needed
pub no_ink : (draft : DraftValue) (ink : Option Ink) → ink ≡ None
    → draft ≡ with_said draft (ink_cmds draft.told.ink ink) (with_ink draft.told ink)
no_ink draft ink none =
    subst (λ (i : Option Ink). draft ≡ with_said draft (ink_cmds draft.told.ink i) (with_ink draft.told i)) (sym none)
    (unsaid draft [] draft.told refl refl)

made_told : Ink → Option ℕ → Bool → Told
made_told ink number cuts = record { ink = ink; number = number; cuts = cuts }

-- the ink that is needed was said last
pub ink_stays : (draft : DraftValue) (ink : Ink) → same_ink draft.told.ink ink ≡ true
    → draft ≡ with_said draft (ink_cmds draft.told.ink (Some ink)) (with_ink draft.told (Some ink))
unfolding made_told
ink_stays draft ink same =
    unsaid draft (ink_cmds draft.told.ink (Some ink)) (with_ink draft.told (Some ink)) (rw same refl)
    (ap (λ i. made_told i draft.told.number draft.told.cuts) (sym (ink_is draft.told.ink ink same)))

-- another ink is said
pub ink_changes : (draft seen new : DraftValue) (ink : Ink) → seen ≡ draft → same_ink seen.told.ink ink ≡ false
    → new.list ≡ seen.list ++ cmd_bytes (Inked ink) → new.needs ≡ seen.needs
    → new.told ≡ with_ink seen.told (Some ink)
    → new ≡ with_said draft (ink_cmds draft.told.ink (Some ink)) (with_ink draft.told (Some ink))
ink_changes draft seen new ink is other list needs told =
    let differs : same_ink draft.told.ink ink ≡ false = subst (λ
    (d : DraftValue). same_ink d.told.ink ink ≡ false) is other in
    said_one draft seen new (ink_cmds draft.told.ink (Some ink)) (Inked ink) (with_ink draft.told (Some ink)) is
    (rw differs refl) list needs (told ∙ ap (λ (d : DraftValue). with_ink d.told (Some ink)) is)

-- the clip of the mark was said last
pub clip_stays : (draft : DraftValue) (mark : MarkValue) → is_clip_told draft.told mark ≡ true
    → draft ≡ with_said draft (clip_cmds draft.told mark) (with_clip draft.told mark)
clip_stays draft mark same =
    unsaid draft (clip_cmds draft.told mark) (with_clip draft.told mark) (rw same refl) (rw same refl)

-- another clip is said
pub clip_changes : (draft seen new : DraftValue) (mark : MarkValue) → seen ≡ draft
    → is_clip_told draft.told mark ≡ false
    → new.list ≡ seen.list ++ cmd_bytes (Clipped mark.clip) → new.needs ≡ seen.needs
    → new.told.ink ≡ seen.told.ink → new.told.number ≡ mark.clip_number → new.told.cuts ≡ has_regions mark.clip
    → new ≡ with_said draft (clip_cmds draft.told mark) (with_clip draft.told mark)
unfolding made_told
clip_changes draft seen new mark is other list needs ink number cuts =
    let told : new.told ≡ with_clip draft.told mark =
    rw other (
    ap (λ i. made_told i new.told.number new.told.cuts) (ink ∙ ap (λ (d : DraftValue). d.told.ink) is)
    ∙ ap (λ n. made_told draft.told.ink n new.told.cuts) number
    ∙ ap (λ b. made_told draft.told.ink mark.clip_number b) cuts
    ) in
    said_one draft seen new (clip_cmds draft.told mark) (Clipped mark.clip) (with_clip draft.told mark) is
    (rw other refl) list needs told

-- a draft after the ink, the clip and the painting of a mark, and its source
pub mark_added : {A E : Type 0} (result : Result A E) (draft inked clipped seen new : DraftValue) (mark : MarkValue)
    (painted : List ℕ) (ink : Option Ink) (source : Option ℕ) → ink ≡ needed_ink mark.paint → source ≡ mark_source mark
    → inked ≡ with_said draft (ink_cmds draft.told.ink ink) (with_ink draft.told ink)
    → clipped ≡ with_said inked (clip_cmds inked.told mark) (with_clip inked.told mark) → seen ≡ clipped
    → new.list ≡ seen.list ++ painted → OnOk result (new.needs ≡ needs_after seen.needs source) → new.told ≡ seen.told
    → OnOk result (new ≡ draft_after mark painted draft)
unfolding draft_after change_cmds told_after
mark_added (Err e) draft inked clipped seen new mark painted ink source ink_is source_is one two is list needs told = tt
mark_added (Ok done) draft inked clipped seen new mark painted ink source ink_is source_is one two is list needs told =
    let first : inked ≡ with_said draft (ink_cmds draft.told.ink (needed_ink mark.paint))
    (with_ink draft.told (needed_ink mark.paint)) =
    one ∙ ap (λ (i : Option Ink). with_said draft (ink_cmds draft.told.ink i) (with_ink draft.told i)) ink_is in
    let next : Told = with_ink draft.told (needed_ink mark.paint) in
    let inks : List CmdValue = ink_cmds draft.told.ink (needed_ink mark.paint) in
    let clips : List CmdValue = clip_cmds next mark in
    let whole : seen ≡ with_said (with_said draft inks next) clips (with_clip next mark) =
    is ∙ two ∙ ap (λ (d : DraftValue). with_said d (clip_cmds d.told mark) (with_clip d.told mark)) first in
    same_draft new (record {
      list = draft.list ++ (spelled (inks ++ clips) ++ painted);
      needs = needs_after draft.needs (mark_source mark);
      told = with_clip next mark;
    })
    (list ∙ ap (λ (d : DraftValue). d.list ++ painted) whole
    ∙ ap (λ (b : List ℕ). b ++ painted) (append_assoc draft.list (spelled inks) (spelled clips))
    ∙ append_assoc draft.list (spelled inks ++ spelled clips) painted
    ∙ ap (λ (b : List ℕ). draft.list ++ (b ++ painted)) (sym (spelled_joined inks clips)))
    (needs ∙ ap (λ (d : DraftValue). needs_after d.needs source) whole
    ∙ ap (λ (s : Option ℕ). needs_after draft.needs s) source_is)
    (told ∙ ap (λ (d : DraftValue). d.told) whole)

-- what is said before a mark is painted has the bounds of commands
pub changes_are : {A E : Type 0} (result : Result A E) (draft inked : DraftValue) (mark : MarkValue) (ink : Option Ink)
    → ink ≡ needed_ink mark.paint → inked ≡ with_said draft (ink_cmds draft.told.ink ink) (with_ink draft.told ink)
    → AllByRecursion IsCmd (ink_cmds draft.told.ink ink) → AllByRecursion IsCmd (clip_cmds inked.told mark)
    → OnOk result (AllByRecursion IsCmd (change_cmds draft.told mark))
unfolding change_cmds
changes_are (Err e) draft inked mark ink is one inks clips = tt
changes_are (Ok done) draft inked mark ink is one inks clips =
    let told : inked.told ≡ with_ink draft.told (needed_ink mark.paint) =
    ap (λ (d : DraftValue). d.told) one ∙ ap (λ (i : Option Ink). with_ink draft.told i) is in
    all_joined IsCmd (ink_cmds draft.told.ink (needed_ink mark.paint))
    (clip_cmds (with_ink draft.told (needed_ink mark.paint)) mark)
    (subst (λ (i : Option Ink). AllByRecursion IsCmd (ink_cmds draft.told.ink i)) is inks)
    (subst (λ (t : Told). AllByRecursion IsCmd (clip_cmds t mark)) told clips)
