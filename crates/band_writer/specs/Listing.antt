-- The commands of a band's list. Own rule: a list says the ink and the clip where they are others than it said before,
-- and not with each mark. Clips are told apart by their numbers, so that no points are compared.
use Rattle.std.specs.Prelude.{ℕ, ◌==◌, Bool, true, false, not, ◌&&◌, ◌||◌, List, [], ◌∷◌, ◌++◌, Option, Some, None}
use Rattle.std.specs.Prelude.{if◌then◌else◌}
use Rattle.std.specs.Cmp.Lexicographic.{pointwise}
use Rattle.std.specs.List.{flat_map}
use Rattle.press_fault.specs.Plane.{CodeValue}
use Rattle.page_model.specs.declared.mark.Ink.{Ink}
use Rattle.page_model.specs.declared.mark.Ink.TheVariants.{Plain, Linked}
use Rattle.page_model.specs.Marking.{RegionValue, MarkValue, PaintValue, Flatly, Pictured, Masked}
use Rattle.list_codec.specs.Command.{CmdValue, Inked, Clipped, Drawn, Pictured as Shown, Masked as ShownThrough}
use Rattle.list_codec.specs.Spelling.{cmd_bytes}
use Rattle.band_writer.specs.Bands.{PlacedMark}

-- what a list has said so far: its ink, the number of its clip if that has one, and whether the clip cuts anything
pub record Told : Type 0 where
  pub ink : Ink
  pub number : Option ℕ
  pub cuts : Bool

-- a list begins with gray 0, and with a clip that cuts nothing
abbrev pub opening : Told
opening = record { ink = Plain (record { n = 1; c = 0 ∷ 0 ∷ 0 ∷ 0 ∷ [] }); number = None; cuts = false }

-- whether two codes are one
abbrev pub same_code : CodeValue → CodeValue → Bool
same_code a b = a.n == b.n && pointwise ◌==◌ a.c b.c

-- whether two inks are one: both plain or of one source, with one code
abbrev pub same_ink : Ink → Ink → Bool
same_ink (Plain a) (Plain b) = same_code a b
same_ink (Plain a) (Linked source b) = false
same_ink (Linked source a) (Plain b) = false
same_ink (Linked source a) (Linked other b) = source == other && same_code a b

-- whether two numbers are there and equal
abbrev pub same_number : Option ℕ → Option ℕ → Bool
same_number (Some a) (Some b) = a == b
same_number (Some a) None = false
same_number None b = false

-- whether a clip has regions
abbrev pub has_regions : List RegionValue → Bool
has_regions [] = false
has_regions (region ∷ regions) = true

-- whether the clip of a mark was said last: neither cuts anything, or they have one number
abbrev pub is_clip_told : Told → MarkValue → Bool
is_clip_told told mark = (not told.cuts && not (has_regions mark.clip)) || same_number told.number mark.clip_number

-- the ink that a mark needs, if it needs one
abbrev pub needed_ink : PaintValue → Option Ink
needed_ink (Flatly ink) = Some ink
needed_ink (Pictured image) = None
needed_ink (Masked image ink) = Some ink

-- how an ink is said, if one is needed: by a command where it is another than that said before
abbrev pub ink_cmds : Ink → Option Ink → List CmdValue
ink_cmds before None = []
ink_cmds before (Some ink) = if same_ink before ink then [] else Inked ink ∷ []

-- how a mark's clip is said
abbrev pub clip_cmds : Told → MarkValue → List CmdValue
clip_cmds told mark = if is_clip_told told mark then [] else Clipped mark.clip ∷ []

-- the command that paints a mark; its image, if it has one, has this place in the page's table
abbrev pub paint_cmd : ℕ → MarkValue → PaintValue → CmdValue
paint_cmd place mark (Flatly ink) = Drawn mark.rule mark.shapes
paint_cmd place mark (Pictured image) = Shown place
paint_cmd place mark (Masked image ink) = ShownThrough place

-- the command that paints a mark with its place
abbrev pub painting_cmd : PlacedMark → CmdValue
painting_cmd placed = paint_cmd placed.place placed.mark placed.mark.paint

-- what is told after an ink was needed or not
abbrev pub with_ink : Told → Option Ink → Told
with_ink told None = told
with_ink told (Some ink) = record told { ink = ink }

-- what is told after the clip of a mark
abbrev pub with_clip : Told → MarkValue → Told
with_clip told mark =
    if is_clip_told told mark then told
    else (record { ink = told.ink; number = mark.clip_number; cuts = has_regions mark.clip })

-- what is said before a mark is painted: its ink and its clip, where they change
unfoldable pub change_cmds : Told → MarkValue → List CmdValue
change_cmds told mark =
    ink_cmds told.ink (needed_ink mark.paint) ++ clip_cmds (with_ink told (needed_ink mark.paint)) mark

-- what is told after a mark
unfoldable pub told_after : Told → MarkValue → Told
told_after told mark = with_clip (with_ink told (needed_ink mark.paint)) mark

-- the commands of marks, in order: for each what changes, and what paints it
unfoldable pub list_cmds : Told → List PlacedMark → List CmdValue
list_cmds told [] = []
list_cmds told (placed ∷ rest) =
    (change_cmds told placed.mark ++ painting_cmd placed ∷ []) ++ list_cmds (told_after told placed.mark) rest

-- the spellings of commands, one after the other
unfoldable pub spelled : List CmdValue → List ℕ
spelled cmds = flat_map cmd_bytes cmds
