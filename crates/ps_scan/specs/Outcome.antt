-- What the front of a text holds (PostScript Language Reference, third edition, 3.2 Syntax). Own rule: a
-- fault leaves the text where it was.
use Rattle.std.specs.Prelude.{◌≡◌, ◌≤◌, ◌<◌, ℕ, ◌+◌, ◌-◌, List, [], length}
use Rattle.ps_scan.specs.declared.token.Token.{Token}
use Rattle.ps_scan.specs.declared.token.Token.TheVariants.{Int, Real, Literal, Exec, Now, Text, Open, Close, End}
use Rattle.ps_scan.specs.declared.token.ScanFault.{ScanFault}
use Rattle.ps_scan.specs.declared.token.ScanFault.TheVariants.{Syntax, Limit, NoMemory}

-- a token and the rest of the text, or none: for its syntax (syntaxerror), or for a limit
-- (limitcheck)
pub data ScanOutcome : Type 0 where
  Gives : Token → List ℕ → ScanOutcome
  BreaksSyntax : ScanOutcome
  PassesLimit : ScanOutcome

-- how many procedures are open behind a token
abbrev pub depth_after : Token → ℕ → ℕ
depth_after (Int n) depth = depth
depth_after (Real n) depth = depth
depth_after (Literal n) depth = depth
depth_after (Exec n) depth = depth
depth_after (Now n) depth = depth
depth_after (Text n) depth = depth
depth_after Open depth = depth + 1
depth_after Close depth = depth - 1
depth_after End depth = depth

-- a token is one of a string
abbrev pub IsText : Token → Type 0
IsText (Int n) = ⊥
IsText (Real n) = ⊥
IsText (Literal n) = ⊥
IsText (Exec n) = ⊥
IsText (Now n) = ⊥
IsText (Text n) = Unit {0}
IsText Open = ⊥
IsText Close = ⊥
IsText End = ⊥

-- a string's token, the only one that takes memory
abbrev pub GivesText : ScanOutcome → Type 0
GivesText (Gives token rest) = IsText token
GivesText BreaksSyntax = ⊥
GivesText PassesLimit = ⊥

-- the fault that stands in place of a token; memory is wanted for a string alone
abbrev pub IsFaultOf : ScanFault → ScanOutcome → Type 0
IsFaultOf Syntax outcome = outcome ≡ BreaksSyntax
IsFaultOf Limit outcome = outcome ≡ PassesLimit
IsFaultOf NoMemory outcome = GivesText outcome

-- what holds of each token that is given: a name has at most 127 bytes and a string 65,535, at most 64 procedures are
-- open, and at the end none is open and no text is left
abbrev pub IsWithinLimits : ℕ → Token → List ℕ → Type 0
IsWithinLimits depth (Int n) rest = Unit {0}
IsWithinLimits depth (Real n) rest = Unit {0}
IsWithinLimits depth (Literal name) rest = length name ≤ 127
IsWithinLimits depth (Exec name) rest = length name ≤ 127
IsWithinLimits depth (Now name) rest = length name ≤ 127
IsWithinLimits depth (Text bytes) rest = length bytes ≤ 65535
IsWithinLimits depth Open rest = depth < 64
IsWithinLimits depth Close rest = 0 < depth
IsWithinLimits depth End rest = (depth ≡ 0) × (rest ≡ [])
