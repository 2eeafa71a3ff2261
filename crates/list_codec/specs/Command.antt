-- The commands of a band's list, without where their parts lie in memory. Own rule: what a band needs of the marks that
-- reach it stands in a list of its own, so that it can be drawn apart from the others.
use Rattle.std.specs.Prelude.{ℕ, ◌≡◌, ◌<◌, ◌^◌, List, length, slice_index}
use Rattle.std.specs.List.{AllByRecursion}
use Rattle.press_fault.specs.Plane.{PointValue, CodeValue, IsOnPlane, IsCode}
use Rattle.page_model.specs.Disc.{IsDisc}
use Rattle.page_model.specs.Marking.{RegionValue}
use Rattle.page_model.specs.declared.mark.Ink.{Ink}
use Rattle.page_model.specs.declared.mark.Ink.TheVariants.{Plain, Linked}
use Rattle.page_model.specs.declared.shape.Rule.{Rule}
use Rattle.page_model.specs.declared.shape.Shape.{Shape}
use Rattle.page_model.specs.declared.shape.Shape.TheVariants.{Poly, Disc}
use Rattle.list_codec.specs.declared.cmd.Cmd.{Cmd}
use Rattle.list_codec.specs.declared.cmd.Cmd.TheVariants.{Flat, Clip, Draw, Image, Mask}
use Rattle.list_codec.specs.declared.cmd.Brief.{Brief}
use Rattle.list_codec.specs.declared.cmd.Brief.TheVariants as brief

-- one command: the ink or the clip from here on, shapes to be painted by a rule with that ink, or an image or a mask by
-- its place in the page's table
pub data CmdValue : Type 0 where
  Inked : Ink → CmdValue
  Clipped : List RegionValue → CmdValue
  Drawn : Rule → List Shape → CmdValue
  Pictured : ℕ → CmdValue
  Masked : ℕ → CmdValue

-- a command, without its pointers
abbrev pub cmd_value : Cmd → CmdValue
cmd_value (Flat ink) = Inked ink
cmd_value (Clip clip) = Clipped clip.value
cmd_value (Draw rule shapes) = Drawn rule shapes.value
cmd_value (Image index) = Pictured index
cmd_value (Mask index) = Masked index

-- a command whose shapes, where it has any, stand apart from it
abbrev pub brief_value : Brief → List Shape → CmdValue
brief_value (brief.Flat ink) shapes = Inked ink
brief_value (brief.Clip clip) shapes = Clipped clip.value
brief_value (brief.Draw rule) shapes = Drawn rule shapes
brief_value (brief.Image index) shapes = Pictured index
brief_value (brief.Mask index) shapes = Masked index

-- a code has four places, each of them a byte; those that its channels leave are 0
pub record IsWholeCode (code : CodeValue) : Type 0 where
  pub channels : IsCode code.n code.c
  pub places : length code.c ≡ 4
  pub bytes : (k : ℕ) → slice_index code.c k < 256

-- an ink has a whole code, and the number of its source is below 2^32
abbrev pub IsInk : Ink → Type 0
IsInk (Plain code) = IsWholeCode code
IsInk (Linked source code) = (source < 2 ^ 32) × IsWholeCode code

-- a ring has fewer than 2^63 points, all of them on the plane
pub record IsRing (ring : List PointValue) : Type 0 where
  pub few : length ring < 2 ^ 63
  pub points : AllByRecursion IsOnPlane ring

-- fewer than 2^63 items, all of which fit
pub record AreFew {A : Type 0} (Fits : A → Type 0) (all : List A) : Type 0 where
  pub few : length all < 2 ^ 63
  pub each : AllByRecursion Fits all

-- a polygon of such rings, or a disc within its bounds
abbrev pub IsShape : Shape → Type 0
IsShape (Poly rings) = AreFew IsRing rings
IsShape (Disc d) = IsDisc d

-- a region of such rings
abbrev pub IsRegion : RegionValue → Type 0
IsRegion region = AreFew IsRing region.rings

-- a command that has a spelling: its parts keep the bounds of their types, as all in memory do
abbrev pub IsCmd : CmdValue → Type 0
IsCmd (Inked ink) = IsInk ink
IsCmd (Clipped regions) = AreFew IsRegion regions
IsCmd (Drawn rule shapes) = AreFew IsShape shapes
IsCmd (Pictured index) = index < 2 ^ 32
IsCmd (Masked index) = index < 2 ^ 32
