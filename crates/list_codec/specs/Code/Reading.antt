-- Reading from the front of bytes: a part and the bytes after it, or nothing. Own rule: words of the code alone; the
-- laws say that it reads what the spelling says and nothing else.
use Rattle.std.specs.Prelude.{ℕ, zero, suc, ◌≡◌, ◌+◌, ◌-◌, ◌*◌, ◌/◌, ◌%◌, ◌^◌, ◌==◌, nat_lt, Bool, ◌&&◌, List, [], ◌∷◌}
use Rattle.std.specs.Prelude.{Option, Some, None, option_and_then, Result, Ok, Err, ℤ, pos, negsuc, ◌+ℤ◌}
use Rattle.std.specs.Prelude.{unsigned_abs, if◌then◌else◌}
use Rattle.press_fault.specs.Plane.{PointValue, CodeValue}
use Rattle.page_model.specs.Disc.{DiscValue}
use Rattle.page_model.specs.Marking.{RegionValue}
use Rattle.page_model.specs.declared.mark.Ink.{Ink}
use Rattle.page_model.specs.declared.mark.Ink.TheVariants.{Plain, Linked}
use Rattle.page_model.specs.declared.shape.Rule.{Rule}
use Rattle.page_model.specs.declared.shape.Rule.TheVariants.{Nonzero, EvenOdd}
use Rattle.page_model.specs.declared.shape.Shape.{Shape}
use Rattle.page_model.specs.declared.shape.Shape.TheVariants.{Poly, Disc}
use Rattle.list_codec.specs.declared.cmd.Brief.{Brief}
use Rattle.list_codec.specs.declared.cmd.Brief.TheVariants as brief
use Rattle.list_codec.specs.declared.misread.Misread.{Misread}
use Rattle.list_codec.specs.declared.misread.Misread.TheVariants.{NoMemory, NoCommand}
use Rattle.list_codec.specs.Command.{CmdValue, Inked, Clipped, Drawn, Pictured, Masked}
use Rattle.list_codec.specs.Spelling.{origin}

-- the command paints shapes
abbrev pub IsDraw : Brief → Type 0
IsDraw (brief.Draw rule) = Unit {0}
IsDraw (brief.Flat ink) = ⊥
IsDraw (brief.Clip clip) = ⊥
IsDraw (brief.Image index) = ⊥
IsDraw (brief.Mask index) = ⊥

infixl 10 ◌>>=◌
-- the second step on what the first one read
abbrev pub ◌>>=◌ : {A B : Type 0} → Option A → (A → Option B) → Option B
read >>= f = option_and_then f read

-- the code answered what is read, seen by view
abbrev pub Reads : {X Y : Type 0} → (X → Y) → Option X → Option Y → Type 0
Reads view None read = read ≡ None
Reads view (Some x) read = read ≡ Some (view x)

-- out of memory tells nothing of what is read
abbrev pub Fails : {Y : Type 0} → Misread → Option Y → Type 0
Fails NoMemory read = Unit {0}
Fails NoCommand read = read ≡ None

-- the code answered what is read, seen by view, unless memory ran out
abbrev pub Gives : {X Y : Type 0} → (X → Y) → Result X Misread → Option Y → Type 0
Gives view (Ok x) read = read ≡ Some (view x)
Gives view (Err e) read = Fails e read

-- one byte
abbrev pub byte_at : List ℕ → Option (ℕ × List ℕ)
byte_at [] = None
byte_at (byte ∷ rest) = Some (byte, rest)

-- a number by its lowest group, and by what the groups after that give: not 0, which would have no group
abbrev pub joined : ℕ → ℕ × List ℕ → Option (ℕ × List ℕ)
joined low high = if high.0 == 0 then None else Some (low - 128 + 128 * high.0, high.1)

-- a number of at most so many groups
unfoldable pub groups_at : ℕ → List ℕ → Option (ℕ × List ℕ)
groups_at zero bytes = None
groups_at (suc most) bytes = do
  low ← byte_at bytes
  if nat_lt low.0 128 then Some low else option_and_then (joined low.0) (groups_at most low.1)

-- a number below 2^63
unfoldable pub number_at : List ℕ → Option (ℕ × List ℕ)
number_at bytes = groups_at 9 bytes

-- the whole number of a zigzag number
abbrev pub unzigzag : ℕ → ℤ
unzigzag n = if n % 2 == 0 then pos (n / 2) else negsuc (n / 2)

-- a whole number
unfoldable pub signed_at : List ℕ → Option (ℤ × List ℕ)
signed_at bytes = do
  n ← number_at bytes
  Some (unzigzag n.0, n.1)

-- whether a coordinate is one of the plane
abbrev pub is_within : ℤ → Bool
is_within z = nat_lt (unsigned_abs z) (2 ^ 44)

-- a point of the plane and the bytes after it
abbrev pub point_of : ℤ → ℤ → List ℕ → Option (PointValue × List ℕ)
point_of px py rest = if is_within px && is_within py then Some (record { x = px; y = py }, rest) else None

-- a point, told from the one before
unfoldable pub point_at : PointValue → List ℕ → Option (PointValue × List ℕ)
point_at before bytes = do
  across ← signed_at bytes
  down ← signed_at across.1
  point_of (before.x +ℤ across.0) (before.y +ℤ down.0) down.1

-- so many points, each told from the one before
unfoldable pub points_at : ℕ → PointValue → List ℕ → Option (List PointValue × List ℕ)
points_at zero before bytes = Some ([], bytes)
points_at (suc count) before bytes = do
  first ← point_at before bytes
  others ← points_at count first.0 first.1
  Some (first.0 ∷ others.0, others.1)

-- so many items
unfoldable pub many_at : {A : Type 0} → (List ℕ → Option (A × List ℕ)) → ℕ → List ℕ → Option (List A × List ℕ)
many_at item zero bytes = Some ([], bytes)
many_at item (suc count) bytes = do
  first ← item bytes
  others ← many_at item count first.1
  Some (first.0 ∷ others.0, others.1)

-- how many items, and these
unfoldable pub counted_at : {A : Type 0} → (List ℕ → Option (A × List ℕ)) → List ℕ → Option (List A × List ℕ)
counted_at item bytes = do
  count ← number_at bytes
  many_at item count.0 count.1

-- a ring
unfoldable pub ring_at : List ℕ → Option (List PointValue × List ℕ)
ring_at bytes = do
  count ← number_at bytes
  points_at count.0 origin count.1

-- a disc within its bounds and the bytes after it
abbrev pub disc_of : ℤ → ℤ → ℕ → List ℕ → Option (DiscValue × List ℕ)
disc_of cx cy radius rest =
    if is_within cx && is_within cy && nat_lt radius (2 ^ 44)
    then Some (record { x = cx; y = cy; r = radius }, rest) else None

-- a disc
unfoldable pub disc_at : List ℕ → Option (DiscValue × List ℕ)
disc_at bytes = do
  across ← signed_at bytes
  down ← signed_at across.1
  radius ← number_at down.1
  disc_of across.0 down.0 radius.0 radius.1

-- the rings of a polygon
unfoldable pub poly_at : List ℕ → Option (Shape × List ℕ)
poly_at bytes = do
  rings ← counted_at ring_at bytes
  Some (Poly rings.0, rings.1)

-- a disc as a shape
unfoldable pub round_at : List ℕ → Option (Shape × List ℕ)
round_at bytes = do
  disc ← disc_at bytes
  Some (Disc disc.0, disc.1)

-- a shape by the byte that tells which it is
abbrev pub shape_of : ℕ → List ℕ → Option (Shape × List ℕ)
shape_of kind rest = if kind == 0 then poly_at rest else (if kind == 1 then round_at rest else None)

-- a shape
unfoldable pub shape_at : List ℕ → Option (Shape × List ℕ)
shape_at bytes = do
  kind ← byte_at bytes
  shape_of kind.0 kind.1

-- a rule by its byte
abbrev pub rule_of : ℕ → List ℕ → Option (Rule × List ℕ)
rule_of byte rest = if byte == 0 then Some (Nonzero, rest) else (if byte == 1 then Some (EvenOdd, rest) else None)

-- a rule
unfoldable pub rule_at : List ℕ → Option (Rule × List ℕ)
rule_at bytes = do
  byte ← byte_at bytes
  rule_of byte.0 byte.1

-- a region of a clip
unfoldable pub region_at : List ℕ → Option (RegionValue × List ℕ)
region_at bytes = do
  rule ← rule_at bytes
  rings ← counted_at ring_at rule.1
  Some (record { rule = rule.0; rings = rings.0 }, rings.1)

-- a code of one channel
abbrev pub gray_at : List ℕ → Option (CodeValue × List ℕ)
gray_at bytes = do
  gray ← byte_at bytes
  Some (record { n = 1; c = gray.0 ∷ 0 ∷ 0 ∷ 0 ∷ [] }, gray.1)

-- a code of three channels
abbrev pub rgb_at : List ℕ → Option (CodeValue × List ℕ)
rgb_at bytes = do
  red ← byte_at bytes
  green ← byte_at red.1
  blue ← byte_at green.1
  Some (record { n = 3; c = red.0 ∷ green.0 ∷ blue.0 ∷ 0 ∷ [] }, blue.1)

-- a code of four channels
abbrev pub cmyk_at : List ℕ → Option (CodeValue × List ℕ)
cmyk_at bytes = do
  cyan ← byte_at bytes
  magenta ← byte_at cyan.1
  yellow ← byte_at magenta.1
  black ← byte_at yellow.1
  Some (record { n = 4; c = cyan.0 ∷ magenta.0 ∷ yellow.0 ∷ black.0 ∷ [] }, black.1)

-- a code of so many channels
unfoldable pub code_at : ℕ → List ℕ → Option (CodeValue × List ℕ)
code_at channels bytes =
    if channels == 1 then gray_at bytes
    else (if channels == 3 then rgb_at bytes else (if channels == 4 then cmyk_at bytes else None))

-- an ink by the place of its source, 0 for none, and its code
abbrev pub ink_of : ℕ → CodeValue → List ℕ → Option (Ink × List ℕ)
ink_of place code rest =
    if place == 0 then Some (Plain code, rest)
    else (if nat_lt (place - 1) (2 ^ 32) then Some (Linked (place - 1) code, rest) else None)

-- an ink
unfoldable pub ink_at : List ℕ → Option (Ink × List ℕ)
ink_at bytes = do
  channels ← byte_at bytes
  place ← number_at channels.1
  code ← code_at channels.0 place.1
  ink_of place.0 code.0 code.1

-- the place of an image in the page's table and the bytes after it
abbrev pub index_of : ℕ → List ℕ → Option (ℕ × List ℕ)
index_of n rest = if nat_lt n (2 ^ 32) then Some (n, rest) else None

-- the place of an image in the page's table
unfoldable pub index_at : List ℕ → Option (ℕ × List ℕ)
index_at bytes = do
  n ← number_at bytes
  index_of n.0 n.1

-- a change of the ink
unfoldable pub inked_at : List ℕ → Option (CmdValue × List ℕ)
inked_at bytes = do
  ink ← ink_at bytes
  Some (Inked ink.0, ink.1)

-- a change of the clip
unfoldable pub clipped_at : List ℕ → Option (CmdValue × List ℕ)
clipped_at bytes = do
  regions ← counted_at region_at bytes
  Some (Clipped regions.0, regions.1)

-- shapes to be painted
unfoldable pub drawn_at : List ℕ → Option (CmdValue × List ℕ)
drawn_at bytes = do
  rule ← rule_at bytes
  shapes ← counted_at shape_at rule.1
  Some (Drawn rule.0 shapes.0, shapes.1)

-- an image
unfoldable pub pictured_at : List ℕ → Option (CmdValue × List ℕ)
pictured_at bytes = do
  index ← index_at bytes
  Some (Pictured index.0, index.1)

-- a mask
unfoldable pub masked_at : List ℕ → Option (CmdValue × List ℕ)
masked_at bytes = do
  index ← index_at bytes
  Some (Masked index.0, index.1)

-- a command by the byte that tells which it is
abbrev pub cmd_of : ℕ → List ℕ → Option (CmdValue × List ℕ)
cmd_of tag rest =
    if tag == 1 then inked_at rest
    else (if tag == 2 then clipped_at rest
    else (if tag == 3 then drawn_at rest
    else (if tag == 4 then pictured_at rest else (if tag == 5 then masked_at rest else None))))

-- a command
unfoldable pub cmd_at : List ℕ → Option (CmdValue × List ℕ)
cmd_at bytes = do
  tag ← byte_at bytes
  cmd_of tag.0 tag.1
