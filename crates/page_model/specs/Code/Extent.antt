-- The least and the greatest height of what was looked at, as the code of reach gathers them. Own rule: words of the
-- code alone.
use Rattle.std.specs.Prelude.{◌≡◌, ℕ, min, pos, negsuc, ◌<◌, ◌≤◌, ◌^◌, Bool, false, ◌||◌, ◌↔◌, IsTrue, Option, Some}
use Rattle.std.specs.Prelude.{None, ℤ, int_le, unsigned_abs}
use Rattle.page_model.specs.Inside.{centre}

-- a least and a greatest height, in sub-dots
pub record ExtentValue : Type 0 where
  pub top : ℤ
  pub bottom : ℤ

-- a least and a greatest height, both of magnitude below 2^64
pub record IsExtent (least greatest : ℤ) : Type 0 where
  pub top : unsigned_abs least < 2 ^ 64
  pub bottom : unsigned_abs greatest < 2 ^ 64

-- whether there is a least height, at most this one
abbrev pub is_top_by : ℤ → Option ExtentValue → Bool
is_top_by y None = false
is_top_by y (Some heights) = int_le heights.top y

-- whether there is a greatest height, at least this one
abbrev pub is_bottom_from : ℤ → Option ExtentValue → Bool
is_bottom_from y None = false
is_bottom_from y (Some heights) = int_le y heights.bottom

-- the new heights are the old ones and those of something that starts and ends so
pub record IsGrown (old new : Option ExtentValue) (starts ends : ℤ → Bool) : Type 0 where
  pub top : (y : ℤ) → is_top_by y new ≡ (is_top_by y old || starts y)
  pub bottom : (y : ℤ) → is_bottom_from y new ≡ (is_bottom_from y old || ends y)

-- the number from 0 to most that is nearest to a whole number
abbrev pub nearest_within : ℤ → ℕ → ℕ
nearest_within (pos n) most = min n most
nearest_within (negsuc n) most = 0

-- the rows of a page that lie at or below a height begin with this one
pub record IsFirstRow (top : ℤ) (height first : ℕ) : Type 0 where
  pub within : first ≤ height
  pub rows : (row : ℕ) → row < height → IsTrue (int_le top (centre row)) ↔ (first ≤ row)

-- the rows of a page that lie at or above a height end before this one
pub record IsEndRow (bottom : ℤ) (height end : ℕ) : Type 0 where
  pub within : end ≤ height
  pub rows : (row : ℕ) → row < height → IsTrue (int_le (centre row) bottom) ↔ (row < end)
