-- Commands in bytes. Own rule: a list is read command by command, from its front.
use Rattle.std.specs.Prelude.{ℕ, ◌≡◌, ◌≤◌, ◌⊎◌, List, [], ◌∷◌, ◌++◌, length, take}
use Rattle.list_codec.specs.Command.{CmdValue, IsCmd}
use Rattle.list_codec.specs.Spelling.{cmd_bytes}

-- the first bytes, so many, are the spelling of a command
pub record IsFront (bytes : List ℕ) (cmd : CmdValue) (count : ℕ) : Type 0 where
  pub inside : count ≤ length bytes
  pub spelled : take count bytes ≡ cmd_bytes cmd
  pub command : IsCmd cmd

-- no spelling is the front of these bytes
abbrev pub HasNoFront : List ℕ → Type 0
HasNoFront bytes = (cmd : CmdValue) (rest : List ℕ) → IsCmd cmd → bytes ≡ cmd_bytes cmd ++ rest → ⊥

-- the first byte tells a clip or shapes, which need memory
abbrev pub TellsParts : List ℕ → Type 0
TellsParts [] = ⊥
TellsParts (tag ∷ rest) = (tag ≡ 2) ⊎ (tag ≡ 3)
