-- What the commands of a list say. Own rule: an ink and a clip hold from where they are said on; a list begins with
-- gray 0, and with a clip that cuts nothing.
use Rattle.std.specs.Prelude.{ℕ, List, [], ◌∷◌, Option, Some, None}
use Rattle.std.specs.List.{slice_get}
use Rattle.page_model.specs.Image.{ImageValue}
use Rattle.page_model.specs.Marking.{RegionValue, MarkValue, PaintValue, Flatly, Pictured, Masked}
use Rattle.page_model.specs.declared.mark.Ink.{Ink}
use Rattle.page_model.specs.declared.shape.Rule.{Rule}
use Rattle.page_model.specs.declared.shape.Rule.TheVariants.{Nonzero}
use Rattle.page_model.specs.declared.shape.Shape.{Shape}
use Rattle.list_codec.specs.Command.{CmdValue, Inked, Clipped, Drawn, Pictured as Shown, Masked as ShownThrough}
use Rattle.band_writer.specs.Listing.{opening}

-- a mark as a list says it: without the number of its clip
abbrev pub said_mark : Rule → List Shape → List RegionValue → PaintValue → MarkValue
said_mark rule shapes clip paint =
    record { rule = rule; shapes = shapes; clip = clip; clip_number = None; paint = paint }

-- a mark that paints with an image of the table, if there is one at its place
abbrev pub image_marks : List RegionValue → Option ImageValue → (ImageValue → PaintValue) → List MarkValue
    → List MarkValue
image_marks clip None paint rest = rest
image_marks clip (Some image) paint rest = said_mark Nonzero [] clip (paint image) ∷ rest

-- the marks that commands say, from an ink and a clip on, with the page's table of images
unfoldable pub marks_said : List ImageValue → Ink → List RegionValue → List CmdValue → List MarkValue
marks_said images ink clip [] = []
marks_said images ink clip (Inked other ∷ cmds) = marks_said images other clip cmds
marks_said images ink clip (Clipped other ∷ cmds) = marks_said images ink other cmds
marks_said images ink clip (Drawn rule shapes ∷ cmds) =
    said_mark rule shapes clip (Flatly ink) ∷ marks_said images ink clip cmds
marks_said images ink clip (Shown place ∷ cmds) =
    image_marks clip (slice_get images place) (λ image. Pictured image) (marks_said images ink clip cmds)
marks_said images ink clip (ShownThrough place ∷ cmds) =
    image_marks clip (slice_get images place) (λ image. Masked image ink) (marks_said images ink clip cmds)

-- the marks that a list says
abbrev pub list_marks : List ImageValue → List CmdValue → List MarkValue
list_marks images cmds = marks_said images opening.ink [] cmds

-- a mark as its paint has it said: one of shapes with its rule, an image without shapes
abbrev pub as_said : MarkValue → PaintValue → MarkValue
as_said mark (Flatly ink) = said_mark mark.rule mark.shapes mark.clip (Flatly ink)
as_said mark (Pictured image) = said_mark Nonzero [] mark.clip (Pictured image)
as_said mark (Masked image ink) = said_mark Nonzero [] mark.clip (Masked image ink)

-- a mark without what a list doesn't say: the number of its clip, and the inside rule of an image
abbrev pub without_number : MarkValue → MarkValue
without_number mark = as_said mark mark.paint
