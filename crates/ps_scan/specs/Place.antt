-- A place in a program. Own rule: a scanner's state is the number of open procedures and the text
-- that is left.
use Rattle.std.specs.Prelude.{ℕ, List}

-- how many procedures are open, and the text that is left
pub record ScannerValue : Type 0 where
  pub depth : ℕ
  pub rest : List ℕ
