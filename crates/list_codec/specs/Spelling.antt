-- The bytes of a command. Own rule: lists are kept as bytes, which are small and hold no pointers; each command has one
-- spelling, and none is the front of another's.
use Rattle.std.specs.Prelude.{ℕ, zero, suc, ◌+◌, ◌*◌, ◌/◌, ◌%◌, nat_lt, List, [], ◌∷◌, ◌++◌, length, take}
use Rattle.std.specs.Prelude.{ℤ, pos, negsuc, ◌-ℤ◌, if◌then◌else◌}
use Rattle.std.specs.List.{flat_map}
use Rattle.press_fault.specs.Plane.{PointValue, CodeValue}
use Rattle.page_model.specs.Disc.{DiscValue}
use Rattle.page_model.specs.Marking.{RegionValue}
use Rattle.page_model.specs.declared.mark.Ink.{Ink}
use Rattle.page_model.specs.declared.mark.Ink.TheVariants.{Plain, Linked}
use Rattle.page_model.specs.declared.shape.Rule.{Rule}
use Rattle.page_model.specs.declared.shape.Rule.TheVariants.{Nonzero, EvenOdd}
use Rattle.page_model.specs.declared.shape.Shape.{Shape}
use Rattle.page_model.specs.declared.shape.Shape.TheVariants.{Poly, Disc}
use Rattle.list_codec.specs.Command.{CmdValue, Inked, Clipped, Drawn, Pictured, Masked}

-- a number in groups of seven bits, the lowest first; 128 is added to each group but the last
unfoldable pub groups : ℕ → ℕ → List ℕ
groups zero n = []
groups (suc most) n = if nat_lt n 128 then n ∷ [] else (n % 128 + 128) ∷ groups most (n / 128)

-- a number below 2^63: at most nine groups
unfoldable pub number_bytes : ℕ → List ℕ
number_bytes n = groups 9 n

-- a whole number v as the number 2v, or as -2v - 1 where it is negative
abbrev pub zigzag : ℤ → ℕ
zigzag (pos n) = 2 * n
zigzag (negsuc n) = 2 * n + 1

-- a whole number of which either sign is short
unfoldable pub signed_bytes : ℤ → List ℕ
signed_bytes z = number_bytes (zigzag z)

-- a point, by how far it lies from the one before
unfoldable pub point_bytes : PointValue → PointValue → List ℕ
point_bytes before p = signed_bytes (p.x -ℤ before.x) ++ signed_bytes (p.y -ℤ before.y)

-- points, each by how far it lies from the one before
unfoldable pub points_bytes : PointValue → List PointValue → List ℕ
points_bytes before [] = []
points_bytes before (p ∷ ps) = point_bytes before p ++ points_bytes p ps

-- from where the first point of a ring is told
abbrev pub origin : PointValue
origin = record { x = pos 0; y = pos 0 }

-- a ring: how many points, and these
unfoldable pub ring_bytes : List PointValue → List ℕ
ring_bytes ring = number_bytes (length ring) ++ points_bytes origin ring

-- rings: how many, and these
unfoldable pub rings_bytes : List (List PointValue) → List ℕ
rings_bytes rings = number_bytes (length rings) ++ flat_map ring_bytes rings

-- a disc: its centre and its radius
unfoldable pub disc_bytes : DiscValue → List ℕ
disc_bytes d = signed_bytes d.x ++ (signed_bytes d.y ++ number_bytes d.r)

-- a shape: 0 and its rings, or 1 and the disc
unfoldable pub shape_bytes : Shape → List ℕ
shape_bytes (Poly rings) = 0 ∷ rings_bytes rings
shape_bytes (Disc d) = 1 ∷ disc_bytes d

-- shapes: how many, and these
unfoldable pub shapes_bytes : List Shape → List ℕ
shapes_bytes shapes = number_bytes (length shapes) ++ flat_map shape_bytes shapes

-- an inside rule: 0 for nonzero, 1 for even-odd
abbrev pub rule_byte : Rule → ℕ
rule_byte Nonzero = 0
rule_byte EvenOdd = 1

-- a region of a clip: its rule and its rings
unfoldable pub region_bytes : RegionValue → List ℕ
region_bytes region = rule_byte region.rule ∷ rings_bytes region.rings

-- regions: how many, and these
unfoldable pub regions_bytes : List RegionValue → List ℕ
regions_bytes regions = number_bytes (length regions) ++ flat_map region_bytes regions

-- the code of an ink
abbrev pub ink_code : Ink → CodeValue
ink_code (Plain code) = code
ink_code (Linked source code) = code

-- which source an ink goes by: 0 for none, else its number and one
abbrev pub source_place : Ink → ℕ
source_place (Plain code) = 0
source_place (Linked source code) = source + 1

-- an ink: how many channels, its source, and a byte for each channel
unfoldable pub ink_bytes : Ink → List ℕ
ink_bytes ink = (ink_code ink).n ∷ (number_bytes (source_place ink) ++ take (ink_code ink).n (ink_code ink).c)

-- a command: a byte that tells which it is, and its parts
unfoldable pub cmd_bytes : CmdValue → List ℕ
cmd_bytes (Inked ink) = 1 ∷ ink_bytes ink
cmd_bytes (Clipped regions) = 2 ∷ regions_bytes regions
cmd_bytes (Drawn rule shapes) = 3 ∷ rule_byte rule ∷ shapes_bytes shapes
cmd_bytes (Pictured index) = 4 ∷ number_bytes index
cmd_bytes (Masked index) = 5 ∷ number_bytes index
