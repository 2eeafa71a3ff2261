-- What is put at the end of bytes. Own rule: words of the code alone.
use Rattle.std.specs.Prelude.{ℕ, suc, ◌≡◌, ◌<◌, ◌^◌, List, ◌++◌, Result, Ok, Err}
use Rattle.list_codec.specs.Spelling.{groups}

-- bytes that begin with others
pub record BeginsWith (front whole : List ℕ) : Type 0 where
  pub tail : List ℕ
  pub parts : whole ≡ front ++ tail

-- the bytes have a text at their end, or a part of it where memory ran out
abbrev pub Appends : {A E : Type 0} → Result A E → List ℕ → List ℕ → List ℕ → Type 0
Appends (Ok done) old text new = new ≡ old ++ text
Appends (Err e) old text new = BeginsWith old new

-- what is left of a number is still to be put
pub record IsPutSoFar (old whole now : List ℕ) (left : ℕ) : Type 0 where
  pub begins : BeginsWith old now
  pub more : ℕ
  pub small : left < 128 ^ suc more
  pub rest : whole ≡ now ++ groups (suc more) left
