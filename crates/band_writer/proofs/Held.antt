-- The commands and the bytes of a list after one more mark.
use Rattle.std.proofs.Common.{◌≡◌, ℕ, ◌+◌, Bool, true, false, List, [], ◌∷◌, ◌++◌, length, refl, sym, ap, ◌∙◌, inl}
use Rattle.std.proofs.Common.{inr, arith}
use Rattle.std.proofs.Common.{append_assoc, length-append, subst, Result, Ok, Err}
use Rattle.std.specs.Prelude.{OnOk, OnErr}
use Rattle.std.specs.List.{filter, flat_map, AllByRecursion}
use Rattle.std.proofs.lemmas.List.{append-nil}
use Rattle.std.proofs.lemmas.List.Elements.{filter-append}
use Rattle.std.proofs.lemmas.List.Concat.{flat_map-append}
use Rattle.page_model.specs.Marking.{MarkValue}
use Rattle.list_codec.specs.Command.{CmdValue, IsCmd}
use Rattle.list_codec.specs.Spelling.{cmd_bytes}
use Rattle.band_writer.specs.Bands.{PlacedMark, placed_at, placed_from, held_marks, images_of, mark_images}
use Rattle.band_writer.specs.Listing.{Told, change_cmds, painting_cmd, told_after, list_cmds, spelled}
use Rattle.band_writer.specs.Parts.{IsSpelling, AreSpellings}
use Rattle.band_writer.specs.Code.Drafts.{told_by}

-- what holds of two lists holds of both
pub all_joined : {X : Type 0} (P : X → Type 0) (xs ys : List X) → AllByRecursion P xs → AllByRecursion P ys
    → AllByRecursion P (xs ++ ys)
all_joined P [] ys first second = second
all_joined P (x ∷ xs) ys first second = (first.0, all_joined P xs ys first.1 second)

-- the spelling of two lists of commands
pub spelled_joined : (xs ys : List CmdValue) → spelled (xs ++ ys) ≡ spelled xs ++ spelled ys
unfolding spelled
spelled_joined xs ys = flat_map-append cmd_bytes xs ys

-- the spelling of one command
pub spelled_one : (cmd : CmdValue) → spelled (cmd ∷ []) ≡ cmd_bytes cmd
unfolding spelled
spelled_one cmd = append-nil (cmd_bytes cmd)

-- no bytes spell no commands
pub no_spellings : AreSpellings []
unfolding spelled
no_spellings = record { cmds = []; commands = tt; are = refl }

-- spellings with that of one more command
pub with_cmd : (bytes : List ℕ) (cmd : CmdValue) (new : List ℕ) → AreSpellings bytes → IsCmd cmd
    → new ≡ bytes ++ cmd_bytes cmd → AreSpellings new
with_cmd bytes cmd new are command put = record {
  cmds = are.cmds ++ cmd ∷ [];
  commands = all_joined IsCmd are.cmds (cmd ∷ []) are.commands (command, tt);
  are = put ∙ ap (λ (b : List ℕ). b ++ cmd_bytes cmd) are.are ∙ ap (λ (b : List ℕ). spelled are.cmds ++ b) (sym
      (spelled_one cmd))
      ∙ sym (spelled_joined are.cmds (cmd ∷ []));
}

-- spellings with one more
pub with_spelling : (bytes more new : List ℕ) → AreSpellings bytes → IsSpelling more → new ≡ bytes ++ more
    → AreSpellings new
with_spelling bytes more new are one put =
    with_cmd bytes one.cmd new are one.command (put ∙ ap (λ (b : List ℕ). bytes ++ b) one.is)

-- one more mark has the place behind the images of the others
placed_more : (place : ℕ) (marks : List MarkValue) (mark : MarkValue) → placed_from place (marks ++ mark ∷ [])
    ≡ placed_from place marks ++ placed_at (place + length (images_of marks)) mark ∷ []
unfolding placed_from images_of
placed_more place [] mark =
    let same : place ≡ place + 0 = omega arith in ap (λ n. placed_at n mark ∷ []) same
placed_more place (first ∷ marks) mark =
    let n : place + length (mark_images first) + length (flat_map mark_images marks)
    ≡ place + length (mark_images first ++ flat_map mark_images marks) =
    omega (arith, length-append (mark_images first) (flat_map mark_images marks)) in
    ap (λ ps. placed_at place first ∷ ps) (
    placed_more (place + length (mark_images first)) marks mark
    ∙ ap (λ k. placed_from (place + length (mark_images first)) marks ++ placed_at k mark ∷ []) n
    )

whole_filter : (holds : MarkValue → Bool) (marks : List MarkValue) (mark : MarkValue)
    → held_marks holds (marks ++ mark ∷ []) ≡ held_marks holds marks
    ++ filter (λ (placed : PlacedMark). holds placed.mark) (placed_at (length (images_of marks)) mark ∷ [])
unfolding held_marks
whole_filter holds marks mark =
    let zero_less : 0 + length (images_of marks) ≡ length (images_of marks) = omega arith in
    let test : PlacedMark → Bool = λ placed. holds placed.mark in
    ap (λ ps. filter test ps) (placed_more 0 marks mark)
    ∙ filter-append test (placed_from 0 marks) (placed_at (0 + length (images_of marks)) mark ∷ [])
    ∙ ap (λ n. filter test (placed_from 0 marks) ++ filter test (placed_at n mark ∷ [])) zero_less

-- one more mark that passes the test
pub held_more : (holds : MarkValue → Bool) (marks : List MarkValue) (mark : MarkValue) → holds mark ≡ true
    → held_marks holds (marks ++ mark ∷ [])
    ≡ held_marks holds marks ++ placed_at (length (images_of marks)) mark ∷ []
held_more holds marks mark passes = whole_filter holds marks mark ∙ rw passes refl

-- one more mark that doesn't pass it
pub held_same : (holds : MarkValue → Bool) (marks : List MarkValue) (mark : MarkValue) → holds mark ≡ false
    → held_marks holds (marks ++ mark ∷ []) ≡ held_marks holds marks
held_same holds marks mark fails = whole_filter holds marks mark ∙ rw fails (append-nil (held_marks holds marks))

-- the commands of one more mark
pub cmds_more : (told : Told) (placed : List PlacedMark) (one : PlacedMark) → list_cmds told (placed ++ one ∷ [])
    ≡ list_cmds told placed ++ (change_cmds (told_by told placed) one.mark ++ painting_cmd one ∷ [])
unfolding list_cmds told_by
cmds_more told [] one = append-nil (change_cmds told one.mark ++ painting_cmd one ∷ [])
cmds_more told (first ∷ placed) one =
    ap (λ cmds. (change_cmds told first.mark ++ painting_cmd first ∷ []) ++ cmds)
    (cmds_more (told_after told first.mark) placed one)
    ∙ sym (append_assoc (change_cmds told first.mark ++ painting_cmd first ∷ [])
    (list_cmds (told_after told first.mark) placed)
    (change_cmds (told_by (told_after told first.mark) placed) one.mark ++ painting_cmd one ∷ []))

-- what is told after one more mark
pub told_more : (told : Told) (placed : List PlacedMark) (one : PlacedMark)
    → told_by told (placed ++ one ∷ []) ≡ told_after (told_by told placed) one.mark
unfolding told_by
told_more told [] one = refl
told_more told (first ∷ placed) one = told_more (told_after told first.mark) placed one

-- spellings after a command was put or memory ran out
pub after_put : {A E : Type 0} (result : Result A E) (bytes : List ℕ) (cmd : CmdValue) (new : List ℕ)
    → AreSpellings bytes
    → OnOk result (IsCmd cmd) → OnOk result (new ≡ bytes ++ cmd_bytes cmd) → OnErr result (new ≡ bytes)
    → AreSpellings new
after_put (Ok done) bytes cmd new are command put same = with_cmd bytes cmd new are command put
after_put (Err e) bytes cmd new are command put same = subst (λ (b : List ℕ). AreSpellings b) (sym same) are

-- what holds anyway holds after Ok
pub on_ok : {A E : Type 0} (result : Result A E) (P : Type 0) → P → OnOk result P
on_ok (Ok done) P h = h
on_ok (Err e) P h = tt
