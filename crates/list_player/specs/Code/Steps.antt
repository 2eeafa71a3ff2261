-- A band on its way: what each command of its list does, and what is left. Own rule: all that is painted while one loan
-- is out goes by that loan.
use Rattle.std.specs.Prelude.{◌≡◌, ℕ, ◌+◌, ◌<◌, ◌≤◌, ◌==◌, ◌++◌, List, [], ◌∷◌, length, slice_index_or, Bool, true}
use Rattle.std.specs.Prelude.{false}
use Rattle.std.specs.Prelude.{Option, Some, None, IfSome, option_map}
use Rattle.std.specs.Option.{option_map_or}
use Rattle.std.specs.List.{AllByRecursion, slice_get, filter_map, dedup_from}
use Rattle.press_fault.specs.Plane.{CodeValue}
use Rattle.page_model.specs.Image.{ImageValue}
use Rattle.page_model.specs.Marking.{RegionValue, MarkValue, Flatly, Pictured, Masked}
use Rattle.page_model.specs.Cover.{dot_rgb, covers_dot, mark_rgb, ink_rgb, sample_ink, InkHasChannels, ImageHasChannels}
use Rattle.page_model.specs.Page.{ink_source}
use Rattle.page_model.specs.declared.shape.Rule.TheVariants.{Nonzero}
use Rattle.page_model.specs.declared.mark.Ink.{Ink}
use Rattle.page_model.specs.declared.page.Depth.{Depth}
use Rattle.page_model.specs.declared.page.Depth.TheVariants.{Eight, Sixteen}
use Rattle.geo_clip.specs.Mask.{BandMaskValue}
use Rattle.list_codec.specs.Command.{CmdValue, IsCmd, Inked, Clipped, Drawn, Pictured as Shown, Masked as ShownThrough}
use Rattle.list_codec.specs.Lists.{IsFront}
use Rattle.band_writer.specs.Bands.{mark_source, needs_of}
use Rattle.band_writer.specs.Listing.{spelled}
use Rattle.band_writer.specs.Said.{said_mark, image_marks, marks_said}
use Rattle.list_player.specs.Painting.{later, given_where, AreWide}
use Rattle.list_player.specs.Playing.{SayMarks}

-- the colour of a linked code at a depth, by a loan's colours of 8 and of 16 bits
abbrev pub lent_at : Depth → (CodeValue → List ℕ) → (CodeValue → List ℕ) → CodeValue → List ℕ
lent_at Eight colour wide = colour
lent_at Sixteen colour wide = wide

-- the colours of linked codes where all go by one loan
abbrev pub loan_tint : Depth → (CodeValue → List ℕ) → (CodeValue → List ℕ) → ℕ → CodeValue → List ℕ
loan_tint depth colour wide source code = lent_at depth colour wide code

-- the dot of a linked code by a loan; `dot` tells how a colour is kept
abbrev pub lent_dot : {D : Type 0} → (List ℕ → D) → Depth → (CodeValue → List ℕ) → (CodeValue → List ℕ) → CodeValue → D
lent_dot dot depth colour wide code = dot (lent_at depth colour wide code)

-- the dot of a sample's code, by the source of its image if that has one
abbrev pub code_dot : {D : Type 0} → (List ℕ → D) → Depth → (CodeValue → List ℕ) → (CodeValue → List ℕ) → Option ℕ
    → CodeValue → D
code_dot dot depth colour wide source code = dot (ink_rgb depth (loan_tint depth colour wide) (sample_ink source code))

-- what a mark gives a dot: nothing where it doesn't cover it
abbrev pub mark_dot : {D : Type 0} → (List ℕ → D) → Depth → (ℕ → CodeValue → List ℕ) → MarkValue → ℕ → ℕ → Option D
mark_dot dot depth tint mark row col =
    given_where (Some (dot (mark_rgb depth tint row col mark))) (covers_dot row col mark)

-- what marks give a dot, one after the other
abbrev pub marks_dot : {D : Type 0} → (List ℕ → D) → Depth → (ℕ → CodeValue → List ℕ) → List MarkValue → ℕ → ℕ → Option
    D
marks_dot dot depth tint [] row col = None
marks_dot dot depth tint (mark ∷ marks) row col =
    later (mark_dot dot depth tint mark row col) (marks_dot dot depth tint marks row col)

-- rows of dots that are those of marks; the first is the page's row of this number
pub record ShowMarks {D : Type 0} (dot : List ℕ → D) (depth : Depth) (tint : ℕ → CodeValue → List ℕ)
    (width first count : ℕ) (marks : List MarkValue) (rows : List (List D)) : Type 0 where
  pub size : length rows ≡ count
  pub wide : AreWide width rows
  pub dots : (k col : ℕ) (d : D) → k < count → col < width
      → slice_index_or (slice_index_or rows k []) col d ≡ dot (dot_rgb depth tint marks (first + k) col)

-- the ink that holds after a command
abbrev pub ink_after : Ink → CmdValue → Ink
ink_after ink (Inked other) = other
ink_after ink (Clipped regions) = ink
ink_after ink (Drawn rule shapes) = ink
ink_after ink (Shown place) = ink
ink_after ink (ShownThrough place) = ink

-- the clip that holds after a command
abbrev pub clip_after : BandMaskValue → CmdValue → BandMaskValue
clip_after clip (Inked other) = clip
clip_after clip (Clipped regions) = record clip { regions = regions }
clip_after clip (Drawn rule shapes) = clip
clip_after clip (Shown place) = clip
clip_after clip (ShownThrough place) = clip

-- the mark that a command paints, if it paints one
abbrev pub cmd_marks : List ImageValue → Ink → List RegionValue → CmdValue → List MarkValue
cmd_marks images ink regions (Inked other) = []
cmd_marks images ink regions (Clipped other) = []
cmd_marks images ink regions (Drawn rule shapes) = said_mark rule shapes regions (Flatly ink) ∷ []
cmd_marks images ink regions (Shown place) = image_marks regions (slice_get images place) (λ image. Pictured image) []
cmd_marks images ink regions (ShownThrough place) =
    image_marks regions (slice_get images place) (λ image. Masked image ink) []

-- the source of a command's colours, by the ink that holds and the page's images, if it has one
abbrev pub cmd_source : List ImageValue → Ink → CmdValue → Option ℕ
cmd_source images ink (Inked other) = None
cmd_source images ink (Clipped regions) = None
cmd_source images ink (Drawn rule shapes) = ink_source ink
cmd_source images ink (Shown place) = option_map_or (λ (image : ImageValue). image.source) (slice_get images place) None
cmd_source images ink (ShownThrough place) =
    option_map_or (λ (image : ImageValue). ink_source ink) (slice_get images place) None

-- whether a command can be played with the loan of a source, or without one: it needs no source, or just that
abbrev pub is_served : Option ℕ → Option ℕ → Bool
is_served loan None = true
is_served None (Some source) = false
is_served (Some lent) (Some source) = lent == source

-- the codes that a command converts have the channels of their sources
abbrev pub CmdHasChannels : (ℕ → ℕ) → List ImageValue → Ink → CmdValue → Type 0
CmdHasChannels channels images ink (Inked other) = Unit {0}
CmdHasChannels channels images ink (Clipped regions) = Unit {0}
CmdHasChannels channels images ink (Drawn rule shapes) = InkHasChannels channels ink
CmdHasChannels channels images ink (Shown place) =
    IfSome (slice_get images place) (λ (image : ImageValue). ImageHasChannels channels image.channels image.source)
CmdHasChannels channels images ink (ShownThrough place) =
    IfSome (slice_get images place) (λ (image : ImageValue). InkHasChannels channels ink)

-- each command that a loan of a source serves converts codes of so many channels
abbrev pub AllSuit : Option ℕ → ℕ → List ImageValue → Ink → List CmdValue → Type 0
AllSuit source channels images ink [] = Unit {0}
AllSuit source channels images ink (cmd ∷ cmds) =
    (is_served source (cmd_source images ink cmd) ≡ true → CmdHasChannels (λ k. channels) images ink cmd)
    × AllSuit source channels images (ink_after ink cmd) cmds

-- bytes of commands, of which those that a loan serves convert codes of so many channels
pub record AreServable (source : Option ℕ) (channels : ℕ) (images : List ImageValue) (ink : Ink) (bytes : List ℕ) :
    Type 0 where
  pub cmds : List CmdValue
  pub commands : AllByRecursion IsCmd cmds
  pub are : bytes ≡ spelled cmds
  pub suit : AllSuit source channels images ink cmds

-- the first command of the bytes needs this source, if one is needed
abbrev pub NeedsNow : List ImageValue → Ink → List ℕ → Option ℕ → Type 0
NeedsNow images ink bytes None = Unit {0}
NeedsNow images ink bytes (Some source) =
    (cmd : CmdValue) (count : ℕ) → IsFront bytes cmd count → cmd_source images ink cmd ≡ Some source

-- a loan's colours are those of its source
abbrev pub GoesBy : Option ℕ → (ℕ → CodeValue → List ℕ) → (CodeValue → List ℕ) → Type 0
GoesBy None tint colour = Unit {0}
GoesBy (Some source) tint colour = colour ≡ tint source

-- the sources that marks need from a loan on; the first is its own, if there is one
abbrev pub needs_from : Option ℕ → List MarkValue → List ℕ
needs_from None marks = needs_of marks
needs_from (Some source) marks = dedup_from ◌==◌ source (filter_map mark_source marks)

-- a list that was played in part: the marks that are shown, those that the bytes which are left say, and the needs met
-- before the loan of a source
pub record IsPlayed {D : Type 0} (dot : List ℕ → D) (depth : Depth) (tint : ℕ → CodeValue → List ℕ)
    (images : List ImageValue) (whole : List MarkValue) (met : List ℕ) (source : Option ℕ) (clip : BandMaskValue)
    (rows : List (List D)) (ink : Ink) (bytes : List ℕ) : Type 0 where
  pub shown : List MarkValue
  pub left : List MarkValue
  pub parts : whole ≡ shown ++ left
  pub show : ShowMarks dot depth tint clip.width clip.first clip.rows shown rows
  pub cmds : List CmdValue
  pub commands : AllByRecursion IsCmd cmds
  pub are : bytes ≡ spelled cmds
  pub say : left ≡ marks_said images ink clip.regions cmds
  pub needs : needs_of whole ≡ met ++ needs_from source left

-- a list that was played up to the need of a source, or to the end
pub record HasPlayed {D : Type 0} (dot : List ℕ → D) (depth : Depth) (tint : ℕ → CodeValue → List ℕ)
    (images : List ImageValue) (whole : List MarkValue) (met : List ℕ) (need : Option ℕ) (clip : BandMaskValue)
    (rows : List (List D)) (ink : Ink) (bytes : List ℕ) : Type 0 where
  pub played : IsPlayed dot depth tint images whole met need clip rows ink bytes
  pub ended : need ≡ None → played.left ≡ []

-- how many loans are waited for: one at most
abbrev pub awaited : Option ℕ → ℕ
awaited None = 0
awaited (Some source) = 1

-- a list on its way: the marks that it says, what was lent and how often a loan was asked
pub record IsUnderWay {D : Type 0} (dot : List ℕ → D) (depth : Depth) (tint : ℕ → CodeValue → List ℕ)
    (images : List ImageValue) (bytes : List ℕ) (lent_before lent_now : Option (List ℕ)) (tries_before tries_now : ℕ)
    (clip : BandMaskValue) (rows : List (List D)) (ink : Ink) (rest : List ℕ) (need : Option ℕ) : Type 0 where
  pub whole : List MarkValue
  pub says : SayMarks images bytes whole
  pub met : List ℕ
  pub played : HasPlayed dot depth tint images whole met need clip rows ink rest
  pub lent : lent_now ≡ option_map (λ (sources : List ℕ). sources ++ met) lent_before
  pub tries : tries_now ≡ tries_before + length met
