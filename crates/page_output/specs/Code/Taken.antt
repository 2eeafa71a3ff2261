-- How the code follows the bytes that a sink takes. Own rule: words of the code alone.
use Rattle.std.specs.Prelude.{◌≡◌, ◌<◌, ◌++◌, Bool, List, ℕ, length, take, Option, IfSome, is_some}
use Rattle.md5.specs.Md5.{Holds}
use Rattle.press_ports.specs.Causes.{counted, with_piece}
use Rattle.page_output.specs.declared.tally.Tally.{Tally}

-- a tally has taken in these bytes: their count, and their digest so far where it is asked for
pub record HasTaken (is_asked : Bool) (tally : Tally) (taken : List ℕ) : Type 0 where
  pub bytes : tally.bytes ≡ counted 0 (length taken)
  pub asked : is_some tally.hasher ≡ is_asked
  pub digest : IfSome tally.hasher (λ hasher. Holds hasher taken)

-- a tally takes in these bytes
abbrev pub TakesIn : Tally → Tally → List ℕ → Type 0
TakesIn before after sent = (is_asked : Bool) (taken : List ℕ) → HasTaken is_asked before taken
    → HasTaken is_asked after (taken ++ sent)

-- a sink takes these bytes, and the tally beside it takes them in
pub record PassesOn (old new : Option (List ℕ)) (before after : Tally) (sent : List ℕ) : Type 0 where
  pub written : new ≡ with_piece old sent
  pub tally : TakesIn before after sent

-- a sink takes a front of a piece that isn't the whole, none of it perhaps, and the tally takes in the same
abbrev pub PassesFront : Option (List ℕ) → Option (List ℕ) → Tally → Tally → List ℕ → Type 0
PassesFront old new before after piece = (n : ℕ) × (n < length piece)
    × PassesOn old new before after (take n piece)

-- a sink took some bytes, and the tally beside it took in the same
abbrev pub FollowsSink : Option (List ℕ) → Option (List ℕ) → Tally → Tally → Type 0
FollowsSink old new before after = (sent : List ℕ) × PassesOn old new before after sent
