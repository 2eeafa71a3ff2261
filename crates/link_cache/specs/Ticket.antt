-- What a lease or an order says: whose it is, of which residency, and the mark of its key.
use Rattle.std.specs.Prelude.{ℕ, List}

-- what a lease and an order are seen as
pub record Ticket : Type 0 where
  pub seat : ℕ
  pub res : ℕ
  pub mark : List ℕ
