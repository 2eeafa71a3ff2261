-- Marks whose clips have no numbers.
use Rattle.std.proofs.Common.{◌≡◌, List, [], None, All, subst, sym}
use Rattle.std.specs.Option.{IfSome}
use Rattle.std.proofs.lemmas.List.Elements.{All-weaker}
use Rattle.page_model.specs.Marking.{MarkValue}
use Rattle.page_model.specs.Page.{HaveNumberedClips, HasClipOfNumber}

none_told : (mark : MarkValue) → mark.clip_number ≡ None → HasClipOfNumber (λ _. []) mark
none_told mark none = subst (λ o. IfSome o (λ number. mark.clip ≡ [])) (sym none) tt

-- they keep what a page keeps of clip numbers
pub unnumbered : (marks : List MarkValue) → All (λ (mark : MarkValue). mark.clip_number ≡ None) marks
    → HaveNumberedClips marks
unnumbered marks none = record {
  clip_of = λ _. [];
  each = All-weaker (λ (mark : MarkValue). mark.clip_number ≡ None) (HasClipOfNumber (λ _. [])) none_told marks none;
}
