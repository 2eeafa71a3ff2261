-- The rows of a band that a shape reaches. Own rule: words of the code alone.
use Rattle.std.specs.Prelude.{◌≡◌, ℕ, ◌+◌, ◌<◌, ◌≤◌, false, ℤ, int_le}
use Rattle.page_model.specs.Inside.{centre}
use Rattle.page_model.specs.Cover.{shape_holds}
use Rattle.page_model.specs.declared.shape.Rule.{Rule}
use Rattle.page_model.specs.declared.shape.Shape.{Shape}

-- of so many rows from the page's row of this number on, a shape holds a centre at most in those from skip on and
-- before end
pub record IsReached (shape : Shape) (first count skip end : ℕ) : Type 0 where
  pub above : (rule : Rule) (k col : ℕ) → k < count → k < skip → shape_holds rule (first + k) col shape ≡ false
  pub below : (rule : Rule) (k col : ℕ) → k < count → end ≤ k → shape_holds rule (first + k) col shape ≡ false

-- the centres of the rows before skip lie above a height, and those from end on below another
pub record LieBetween (top bottom : ℤ) (first count skip end : ℕ) : Type 0 where
  pub above : (k : ℕ) → k < count → k < skip → int_le top (centre (first + k)) ≡ false
  pub below : (k : ℕ) → k < count → end ≤ k → int_le (centre (first + k)) bottom ≡ false
