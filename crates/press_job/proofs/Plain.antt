-- A page that goes by no source has plain marks alone.
use Rattle.std.proofs.Common.{◌≡◌, ◌<◌, ℕ, List, All, Option, Some, None, subst, arith}
use Rattle.std.proofs.lemmas.List.Elements.{All-weaker}
use Rattle.page_model.specs.declared.mark.Ink.{Ink}
use Rattle.page_model.specs.declared.mark.Ink.TheVariants.{Plain, Linked}
use Rattle.page_model.specs.Marking.{MarkValue, PaintValue, Flatly, Pictured, Masked}
use Rattle.page_model.specs.Page.{PageValue, IsPage, IsNumbered, ink_source, painting_source, HasKnownSource}
use Rattle.page_model.specs.Cover.{HasChannels, InkHasChannels, ImageHasChannels, PaintingHasChannels}
use Rattle.press_job.specs.Code.Painted.{IsDrawable}

ink_plain : (ink : Ink) → IsNumbered 0 (ink_source ink) → InkHasChannels (λ _. 3) ink
ink_plain (Plain code) h = tt
ink_plain (Linked source code) h = absurd (let none : source < 0 = h in omega arith)

image_plain : (count : ℕ) (source : Option ℕ) → IsNumbered 0 source → ImageHasChannels (λ _. 3) count source
image_plain count None h = tt
image_plain count (Some source) h = absurd (let none : source < 0 = h in omega arith)

painting_plain : (paint : PaintValue) → IsNumbered 0 (painting_source paint) → PaintingHasChannels (λ _. 3) paint
painting_plain (Flatly ink) h = ink_plain ink h
painting_plain (Pictured image) h = image_plain image.channels image.source h
painting_plain (Masked image ink) h = ink_plain ink h

mark_plain : (mark : MarkValue) → HasKnownSource 0 mark → HasChannels (λ _. 3) mark
mark_plain mark h = painting_plain mark.paint h

all_plain : (marks : List MarkValue) → All (HasKnownSource 0) marks → All (HasChannels (λ _. 3)) marks
all_plain marks h = All-weaker (HasKnownSource 0) (HasChannels (λ _. 3)) mark_plain marks h

-- a page that goes by no source can be drawn with no profile
pub drawable : (page : PageValue) → IsPage page.width page.height page.sources page.marks → page.sources ≡ 0 →
    IsDrawable page
drawable page kept none = record {
  size = record { across = kept.width; down = kept.height; dots = kept.dots };
  sources = omega (arith, none);
  plain = all_plain page.marks (subst (λ n. All (HasKnownSource n) page.marks) none kept.known);
}
