-- What the steps keep by which crossings are found, added and counted. Own rule: words of the code alone.
use Rattle.std.specs.Prelude.{◌≡◌, ℕ, ◌<◌, ◌≤◌, List, [], ◌∷◌, ℤ, ◌+ℤ◌}
use Rattle.std.specs.List.{All}
use Rattle.geo_fill.specs.declared.crossing.Crossing.{Crossing}
use Rattle.geo_fill.specs.Code.Crossings.{winding_by, IsOfRange}

-- crossings of a range were added, which add so much to the winding number at each of its columns
pub record AreAdded (from to : ℕ) (old new : List Crossing) (turn : ℕ → ℤ) : Type 0 where
  pub turns : (col : ℕ) → from ≤ col → col < to → winding_by col new ≡ (winding_by col old +ℤ turn col)
  pub range : All (IsOfRange from to) old → All (IsOfRange from to) new

-- the first begins at a column or later, and none before an earlier one
abbrev pub AreInOrder : ℕ → List Crossing → Type 0
AreInOrder from [] = Unit {0}
AreInOrder from (c ∷ rest) = (from ≤ c.col) × AreInOrder c.col rest

-- the crossings before the rest are at a column or left of it, and add so much to the winding number
pub record AreCounted (at : ℕ) (before : ℤ) (rest crossings : List Crossing) : Type 0 where
  pub order : AreInOrder at rest
  pub turns : (col : ℕ) → at ≤ col → winding_by col crossings ≡ (before +ℤ winding_by col rest)
