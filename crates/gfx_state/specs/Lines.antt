-- Line parameters (PostScript Language Reference, third edition, 8.2 `setlinewidth`, `setlinecap`,
-- `setlinejoin`, `setmiterlimit`, `setdash`), by raw numbers of user space.
-- Own rule: a line width is taken without its sign; a dash array has at most 32 lengths.
use Rattle.std.specs.Prelude.{◌≤◌, ℤ, pos, ◌≤ℤ◌, ◌==◌, int_lt, unsigned_abs, nat_lt, Bool, ◌&&◌, ◌||◌, List, [], length}
use Rattle.std.specs.Prelude.{Option, Some, None, if◌then◌else◌}
use Rattle.std.specs.List.{All, list_any, list_all}
use Rattle.std.specs.declared.sync.Arc.{Arc}
use Rattle.std.specs.declared.alloc.Global.{Global}
use Rattle.geo_stroke.specs.declared.pen.Cap.{Cap}
use Rattle.geo_stroke.specs.declared.pen.Cap.TheVariants.{Butt}
use Rattle.geo_stroke.specs.declared.pen.Join.{Join}
use Rattle.geo_stroke.specs.declared.pen.Join.TheVariants.{Miter}
use Rattle.gfx_state.specs.declared.line_style.DashFault.{DashFault}
use Rattle.gfx_state.specs.declared.line_style.DashFault.TheVariants.{RangeCheck, LimitCheck}

-- the line parameters of a graphics state; dashes and gaps in turn, and how far along them a line begins
pub record LineStyleValue : Type 0 where
  pub width : ℤ
  pub cap : Cap
  pub join : Join
  pub miter : ℤ
  pub dashes : List ℤ
  pub offset : ℤ

-- those at the start: width 1, cap 0, join 0, miter limit 10, and no dashes
abbrev pub initial_line : LineStyleValue
initial_line = record { width = pos 65536; cap = Butt; join = Miter; miter = pos 655360; dashes = []; offset = pos 0 }

-- what line parameters keep: a width without sign, and a miter limit of 1 at least
pub record IsLine (width miter : ℤ) : Type 0 where
  pub magnitude : pos 0 ≤ℤ width
  pub limit : pos 65536 ≤ℤ miter

-- what a dash array keeps: at most 32 lengths, and none below 0
pub record IsDashArray (dashes : List ℤ) : Type 0 where
  pub few : length dashes ≤ 32
  pub lengths : All (λ dash. pos 0 ≤ℤ dash) dashes

-- the lengths, where there are any
abbrev pub dashes_of : Option (Arc (List ℤ) Global) → List ℤ
dashes_of None = []
dashes_of (Some dashes) = dashes.value

-- whether a length is below 0
abbrev pub is_negative : ℤ → Bool
is_negative dash = int_lt dash (pos 0)

-- whether a length is 0
abbrev pub is_zero : ℤ → Bool
is_zero dash = unsigned_abs dash == 0

-- whether there are lengths, and all of them are 0
abbrev pub is_blank : List ℤ → Bool
is_blank dashes = nat_lt 0 (length dashes) && list_all is_zero dashes

-- why a dash array is refused: rangecheck where a length is below 0 or there are lengths and all of them are 0, and
-- only then limitcheck for more than 32
abbrev pub dash_fault : List ℤ → Option DashFault
dash_fault dashes =
    if list_any is_negative dashes || is_blank dashes then Some RangeCheck
    else if nat_lt 32 (length dashes) then Some LimitCheck else None
