-- The drafts of a page's bands, mark by mark.
use Rattle.std.proofs.Common.{◌≡◌, ℕ, ◌+◌, ◌<◌, ◌≤◌, Bool, true, false, List, [], ◌∷◌, ◌++◌, length, get_or, refl}
use Rattle.std.proofs.Common.{sym, ap}
use Rattle.std.proofs.Common.{◌∙◌, subst, inl, inr, arith, append_assoc, length-append}
use Rattle.std.specs.List.{filter, flat_map, AllByRecursion}
use Rattle.std.proofs.lemmas.Bool.{cases_Bool}
use Rattle.std.proofs.lemmas.List.{append-nil}
use Rattle.std.proofs.lemmas.List.Elements.{filter-append}
use Rattle.page_model.specs.Marking.{MarkValue}
use Rattle.list_codec.specs.Command.{CmdValue, IsCmd}
use Rattle.list_codec.specs.Spelling.{cmd_bytes}
use Rattle.band_writer.specs.Bands.{PlacedMark, placed_at, placed_from, held_marks, images_of, mark_images, needs_of}
use Rattle.band_writer.specs.Bands.{mark_source}
use Rattle.band_writer.specs.Listing.{opening, change_cmds, painting_cmd, told_after, list_cmds, spelled}
use Rattle.band_writer.specs.Code.Drafts.{DraftValue, empty_draft, draft_after, needs_after, told_by, IsDraft, IsAdded}
use Rattle.band_writer.proofs.Sources.{needs_more}
use Rattle.band_writer.proofs.Held.{all_joined, spelled_joined, spelled_one, held_more, held_same, cmds_more, told_more}

-- before the first mark
pub empty_is_draft : (holds : MarkValue → Bool) → IsDraft holds [] empty_draft
unfolding held_marks placed_from list_cmds spelled needs_of told_by
empty_is_draft holds = record { list = refl; commands = tt; needs = refl; told = refl }

-- a mark that the band doesn't hold
pub draft_stays : (holds : MarkValue → Bool) (marks : List MarkValue) (mark : MarkValue) (draft : DraftValue)
    → holds mark ≡ false → IsDraft holds marks draft → IsDraft holds (marks ++ mark ∷ []) draft
draft_stays holds marks mark draft fails is = record {
  list = is.list ∙ ap (λ ps. spelled (list_cmds opening ps)) (sym (held_same holds marks mark fails));
  commands = subst (λ ps. AllByRecursion IsCmd (list_cmds opening ps)) (sym
      (held_same holds marks mark fails)) is.commands;
  needs = is.needs ∙ ap (λ ms. needs_of ms) (sym (filter-append holds marks (mark ∷ [])
      ∙ rw fails (append-nil (filter holds marks))));
  told = is.told ∙ ap (λ ps. told_by opening ps) (sym (held_same holds marks mark fails));
}

-- a mark that the band holds
pub draft_goes_on : (holds : MarkValue → Bool) (marks : List MarkValue) (mark : MarkValue) (painted : List ℕ)
    (draft : DraftValue) → holds mark ≡ true → IsDraft holds marks draft
    → IsCmd (painting_cmd (placed_at (length (images_of marks)) mark))
    → painted ≡ cmd_bytes (painting_cmd (placed_at (length (images_of marks)) mark))
    → AllByRecursion IsCmd (change_cmds draft.told mark)
    → IsDraft holds (marks ++ mark ∷ []) (draft_after mark painted draft)
unfolding draft_after
draft_goes_on holds marks mark painted draft passes is command spelling changes =
    let one : PlacedMark = placed_at (length (images_of marks)) mark in
    let before : List PlacedMark = held_marks holds marks in
    let told : _ = told_by opening before in
    let held = held_more holds marks mark passes in
    let more : List CmdValue = change_cmds told mark ++ painting_cmd one ∷ [] in
    let cmds : list_cmds opening (held_marks holds (marks ++ mark ∷ [])) ≡ list_cmds opening before ++ more =
    ap (λ ps. list_cmds opening ps) held ∙ cmds_more opening before one in
    let changed : AllByRecursion IsCmd (change_cmds told mark) =
    subst (λ t. AllByRecursion IsCmd (change_cmds t mark)) is.told changes in
    let bytes : spelled more ≡ spelled (change_cmds draft.told mark) ++ painted =
    spelled_joined (change_cmds told mark) (painting_cmd one ∷ [])
    ∙ ap (λ (b : List ℕ). spelled (change_cmds told mark) ++ b) (spelled_one (painting_cmd one) ∙ sym spelling)
    ∙ ap (λ t. spelled (change_cmds t mark) ++ painted) (sym is.told) in
    record {
      list = ap (λ (b : List ℕ). b ++ (spelled (change_cmds draft.told mark) ++ painted)) is.list
          ∙ ap (λ (b : List ℕ). spelled (list_cmds opening before) ++ b) (sym bytes)
          ∙ sym (spelled_joined (list_cmds opening before) more)
          ∙ ap (λ cs. spelled cs) (sym cmds);
      commands = subst (λ cs. AllByRecursion IsCmd cs) (sym cmds) (
          all_joined IsCmd (list_cmds opening before) more is.commands
          (all_joined IsCmd (change_cmds told mark) (painting_cmd one ∷ []) changed (command, tt))
          );
      needs = ap (λ (ns : List ℕ). needs_after ns (mark_source mark)) is.needs
          ∙ sym (needs_more (filter holds marks) mark)
          ∙ ap (λ ms. needs_of ms) (sym (filter-append holds marks (mark ∷ []) ∙ rw passes refl));
      told = ap (λ t. told_after t mark) is.told ∙ sym (told_more opening before one)
          ∙ ap (λ ps. told_by opening ps) (sym held);
    }
