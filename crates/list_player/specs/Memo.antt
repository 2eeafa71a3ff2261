-- Dots of codes that are remembered. Own rule: what is remembered is what a conversion would give again.
use Rattle.std.specs.Prelude.{◌≡◌, ℕ, List, length, slice_index_or, Option, None, IfSome}
use Rattle.press_fault.specs.Plane.{CodeValue}

-- at each of 256 places nothing, or a code with the dot that it is given
pub record Remembers {D : Type 0} (dot_of : CodeValue → D) (told : List (Option (CodeValue × D))) : Type 0 where
  pub size : length told ≡ 256
  pub each : (k : ℕ) → IfSome (slice_index_or told k None) (λ (t : CodeValue × D). t.1 ≡ dot_of t.0)
