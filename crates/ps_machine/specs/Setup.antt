-- What a program is run with. Own rule: the page that it begins on, which `setpagedevice` may change.
use Rattle.std.specs.Prelude.{ℕ}
use Rattle.gfx_state.specs.Graphics.{PageSize}

-- the sides of the first page in dots, and the dots of an inch
pub record SetupValue : Type 0 where
  pub width : ℕ
  pub height : ℕ
  pub res : ℕ

-- the page that a program begins on
abbrev pub first_size : SetupValue → PageSize
first_size setup = record { width = setup.width; height = setup.height; res = setup.res }
