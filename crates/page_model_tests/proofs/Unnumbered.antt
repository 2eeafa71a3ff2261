-- Marks whose clips have no numbers.
use Rattle.std.proofs.Common.{◌≡◌, sym, subst, [], ◌∷◌, None}
use Rattle.std.specs.Option.{IfSome}
use Rattle.std.proofs.lemmas.List.Elements.{All-nil, All-cons}
use Rattle.page_model.specs.Marking.{MarkValue}
use Rattle.page_model.specs.Page.{HaveNumberedClips, HasClipOfNumber}

none_told : (mark : MarkValue) → mark.clip_number ≡ None → HasClipOfNumber (λ _. []) mark
none_told mark none = subst (λ o. IfSome o (λ number. mark.clip ≡ [])) (sym none) tt

-- two of them keep what a page keeps of clip numbers
pub unnumbered : (below above : MarkValue) → below.clip_number ≡ None → above.clip_number ≡ None →
    HaveNumberedClips (below ∷ above ∷ [])
unnumbered below above first second = record {
  clip_of = λ _. [];
  each = All-cons (HasClipOfNumber (λ _. [])) below (above ∷ []) (none_told below first)
      (All-cons (HasClipOfNumber (λ _. [])) above [] (none_told above second) (All-nil (HasClipOfNumber (λ _. []))));
}
