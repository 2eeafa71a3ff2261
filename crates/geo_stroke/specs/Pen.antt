-- Pens of strokes (PostScript Language Reference, third edition, 8.2 `setlinewidth`, `setlinecap`,
-- `setlinejoin`, `setmiterlimit`, `setdash`). Own rule: a pen is round and its half width a whole
-- number of sub-dots, 1/256 of a dot; lengths of dashes count 1/65536 of a dot.
use Rattle.std.specs.Prelude.{ℕ, ◌==◌, Bool, zero, suc, ◌≤◌, ◌<◌, ◌^◌, ℤ, pos, negsuc, ◌≤ℤ◌, unsigned_abs, List, length}
use Rattle.std.specs.Prelude.{Option, Some, None}
use Rattle.std.specs.List.{All, list_all}
use Rattle.geo_stroke.specs.declared.pen.Cap.{Cap}
use Rattle.geo_stroke.specs.declared.pen.Cap.TheVariants as cap
use Rattle.geo_stroke.specs.declared.pen.Join.{Join}
use Rattle.geo_stroke.specs.declared.pen.Join.TheVariants as join

-- the caps by their numbers: 0 butt, 1 round, 2 square; none of any other
abbrev pub cap_of : ℤ → Option Cap
cap_of (pos zero) = Some cap.Butt
cap_of (pos (suc zero)) = Some cap.Round
cap_of (pos (suc (suc zero))) = Some cap.Square
cap_of (pos (suc (suc (suc n)))) = None
cap_of (negsuc n) = None

-- the joins by their numbers: 0 miter, 1 round, 2 bevel; none of any other
abbrev pub join_of : ℤ → Option Join
join_of (pos zero) = Some join.Miter
join_of (pos (suc zero)) = Some join.Round
join_of (pos (suc (suc zero))) = Some join.Bevel
join_of (pos (suc (suc (suc n)))) = None
join_of (negsuc n) = None

-- a length of a dash or a gap, below 2^62
abbrev pub IsDash : ℕ → Type 0
IsDash dash = dash < 2 ^ 62

-- a pattern of dashes: at most 32 lengths, each below 2^62
pub record IsPattern (dashes : List ℕ) : Type 0 where
  pub few : length dashes ≤ 32
  pub short : All IsDash dashes

-- whether a line is solid: there are no dashes and gaps, or each is 0
abbrev pub is_solid : List ℕ → Bool
is_solid dashes = list_all (λ dash. dash == 0) dashes

-- what a line is painted with: half its width in sub-dots, its ends and corners, the miter limit by
-- its raw value, the dashes and gaps in turn, and how far along the pattern each line begins
pub record PenValue : Type 0 where
  pub half : ℤ
  pub cap : Cap
  pub join : Join
  pub miter : ℤ
  pub dashes : List ℕ
  pub offset : ℤ

-- what every pen keeps: half a width from half a dot to 2^30 sub-dots, a miter limit of 1 at least,
-- and an offset of a magnitude below 2^62
pub record IsPen (half miter offset : ℤ) : Type 0 where
  pub least : pos 128 ≤ℤ half
  pub most : half ≤ℤ pos (2 ^ 30)
  pub limit : pos 65536 ≤ℤ miter
  pub near : unsigned_abs offset < 2 ^ 62
