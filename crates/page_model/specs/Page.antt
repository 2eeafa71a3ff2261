-- Pages. Own rule: a page has at most 16384 dots a side, 67108864 dots and 1000000 marks.
use Rattle.std.specs.Prelude.{ℕ, ◌≡◌, ◌*◌, ◌<◌, ◌≤◌, List, length, All, Option, Some, None, IfSome}
use Rattle.page_model.specs.Marking.{RegionValue, MarkValue, PaintValue, Flatly, Pictured, Masked}
use Rattle.page_model.specs.declared.mark.Ink.{Ink}
use Rattle.page_model.specs.declared.mark.Ink.TheVariants.{Plain, Linked}

-- a page's size in dots, how many sources its codes come from, and its marks, the lowest first
pub record PageValue : Type 0 where
  pub width : ℕ
  pub height : ℕ
  pub sources : ℕ
  pub marks : List MarkValue

-- the number of a source, if there is one, is below the count of sources
abbrev pub IsNumbered : ℕ → Option ℕ → Type 0
IsNumbered sources None = Unit {0}
IsNumbered sources (Some source) = source < sources

-- the source of an ink, if it has one
abbrev pub ink_source : Ink → Option ℕ
ink_source (Plain code) = None
ink_source (Linked source code) = Some source

-- the source of a mark's colours, if it has one
abbrev pub painting_source : PaintValue → Option ℕ
painting_source (Flatly ink) = ink_source ink
painting_source (Pictured image) = image.source
painting_source (Masked image ink) = ink_source ink

-- the number of a mark's source, if it has one, is below a count
abbrev pub HasKnownSource : ℕ → MarkValue → Type 0
HasKnownSource sources mark = IsNumbered sources (painting_source mark.paint)

-- a mark's clip is the one of its number, where it has a number
abbrev pub HasClipOfNumber : (ℕ → List RegionValue) → MarkValue → Type 0
HasClipOfNumber clip_of mark = IfSome mark.clip_number (λ number. mark.clip ≡ clip_of number)

-- marks of one clip number have one clip: there is a clip of each number
pub record HaveNumberedClips (marks : List MarkValue) : Type 0 where
  pub clip_of : ℕ → List RegionValue
  pub each : All (HasClipOfNumber clip_of) marks

-- what a page keeps: at most 16,384 dots a side, 67,108,864 dots and 1,000,000 marks, each with a known source or none;
-- marks of one clip number have one clip
pub record IsPage (w h sources : ℕ) (marks : List MarkValue) : Type 0 where
  pub width : w ≤ 16384
  pub height : h ≤ 16384
  pub dots : w * h ≤ 67108864
  pub few : length marks ≤ 1000000
  pub known : All (HasKnownSource sources) marks
  pub numbered : HaveNumberedClips marks
