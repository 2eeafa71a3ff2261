-- Where one is on a chain of segments. Own rule: these words serve the contracts inside the crate alone.
use Rattle.std.specs.Prelude.{◌≡◌, ℕ, ◌+◌, ◌-◌, ◌<◌, ◌≤◌, List, Option, MatchOption, ◌∷◌}
use Rattle.geo_stroke.specs.declared.dash.Dash.{Dash}
use Rattle.geo_stroke.specs.Segment.{LineSegmentValue}
use Rattle.geo_stroke.specs.Dash.{place_from, corners_from, total_of}

-- from a distance t on, a chain (s, all) goes on as the chain (here, rest), which begins at the distance `passed`
pub record IsAhead (s : LineSegmentValue) (all : List LineSegmentValue) (here : LineSegmentValue)
    (rest : List LineSegmentValue) (passed t : ℕ) : Type 0 where
  pub place : (u : ℕ) → t ≤ u → place_from s all u ≡ place_from here rest (u - passed)
  pub corners : (b : ℕ) → corners_from s all t b ≡ corners_from here rest (t - passed) (b - passed)

-- the chain (here, rest) is what is left of the chain (s, all) behind the distance `passed`
pub record IsCursor (s : LineSegmentValue) (all : List LineSegmentValue) (here : LineSegmentValue)
    (rest : List LineSegmentValue) (passed : ℕ) : Type 0 where
  pub total : total_of (s ∷ all) ≡ passed + total_of (here ∷ rest)
  pub ahead : (t : ℕ) → passed < t → IsAhead s all here rest passed t

-- a dash that ends on a line of this length, and not before it begins
pub record IsOnLine (total : ℕ) (dash : Dash) : Type 0 where
  pub order : dash.from ≤ dash.to
  pub end : dash.to ≤ total

-- the same dash, by distances that begin later
abbrev pub later_by : ℕ → Dash → Dash
later_by passed dash = record { from = dash.from - passed; to = dash.to - passed; is_dot = dash.is_dot }

-- the room that so many dashes leave; none where they are more than there is room for
abbrev pub LeavesRoom : ℕ → ℕ → Option ℕ → Type 0
LeavesRoom room count left = MatchOption left (room < count) (λ r. r + count ≡ room)
