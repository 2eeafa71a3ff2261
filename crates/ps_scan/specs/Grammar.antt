-- Tokens (PostScript Language Reference, third edition, 3.2 Syntax). Own rules: the limits of names, of
-- strings and of nesting; white space behind a bracket is consumed, as behind a name.
use Rattle.std.specs.Prelude.{◌≡◌, ℕ, ◌==◌, ◌<◌, ◌≤◌, Bool, true, false, not, ◌||◌, List, [], ◌∷◌, length, drop}
use Rattle.std.specs.List.{filter}
use Rattle.ps_scan.specs.Characters.{is_hex, is_hex_or_white, is_greater, pairs, is_white, is_line_end, is_regular}
use Rattle.ps_scan.specs.Characters.{begins, IsRegularRun, white_after}
use Rattle.ps_scan.specs.Strings.{StringBody}
use Rattle.ps_scan.specs.Numerals.{IsNumeral}
use Rattle.ps_scan.specs.declared.numerals.Numeral.{Numeral}
use Rattle.ps_scan.specs.declared.numerals.Numeral.TheVariants.{Whole, Decimal, TooGreat}
use Rattle.ps_scan.specs.declared.token.Token.TheVariants.{Int, Real, Literal, Exec, Now, Text, Open, Close, End}
use Rattle.ps_scan.specs.Outcome.{ScanOutcome}
use Rattle.ps_scan.specs.Outcome.ScanOutcome.{Gives, BreaksSyntax, PassesLimit}

-- white space, and `%`, which begins a comment
abbrev pub is_blank : ℕ → Bool
is_blank c = is_white c || c == 37

-- the less-than sign, `<`
abbrev pub is_less : ℕ → Bool
is_less c = c == 60

-- the solidus, `/`
abbrev pub is_solidus : ℕ → Bool
is_solidus c = c == 47

-- white space, and comments from `%` up to a line end, in front of a text, and the text behind them
pub data Skips : List ℕ → List ℕ → Type 0 where
  NoBlank : (text : List ℕ) → begins is_blank text ≡ false → Skips text text
  White : (c : ℕ) (text rest : List ℕ) → is_white c ≡ true → Skips text rest → Skips (c ∷ text) rest
  Comment : (text body behind rest : List ℕ)
      → IsRegularRun (λ c. not (is_line_end c)) text body behind → Skips behind rest
      → Skips (37 ∷ text) rest

-- what stands behind a number or name, and the white space that goes with it
abbrev pub behind : List ℕ → List ℕ
behind rest = drop (white_after rest) rest

-- a number's token, unless the number passes a limit
abbrev pub number_outcome : Numeral → List ℕ → ScanOutcome
number_outcome (Whole n) rest = Gives (Int n) (behind rest)
number_outcome (Decimal raw) rest = Gives (Real raw) (behind rest)
number_outcome TooGreat rest = PassesLimit

-- a run that has the form of no number
abbrev pub IsNoNumeral : List ℕ → Type 0
IsNoNumeral run = (numeral : Numeral) → IsNumeral run numeral → ⊥

-- the token at the front of a text that begins with no blank, where so many procedures are open: a run of regular bytes
-- is a number by its form, else an executable name; behind `/` and `//` stands a name; brackets, `<<` and `>>` are
-- executable names, braces open and close a procedure, and `( )` and `< >` are strings
pub data Reads : ℕ → List ℕ → ScanOutcome → Type 0 where
  -- the end of the text, where no procedure is open
  AtEnd : Reads 0 [] (Gives End [])
  Unclosed : (depth : ℕ) → 0 < depth → Reads depth [] BreaksSyntax
  -- a run of regular bytes: a number by its form, else an executable name of at most 127 bytes
  Number : (depth : ℕ) (text run rest : List ℕ) (numeral : Numeral)
      → IsRegularRun is_regular text run rest → IsNumeral run numeral
      → Reads depth text (number_outcome numeral rest)
  Word : (depth : ℕ) (text run rest : List ℕ)
      → IsRegularRun is_regular text run rest → 0 < length run → IsNoNumeral run → length run ≤ 127
      → Reads depth text (Gives (Exec run) (behind rest))
  LongWord : (depth : ℕ) (text run rest : List ℕ)
      → IsRegularRun is_regular text run rest → IsNoNumeral run → 127 < length run
      → Reads depth text PassesLimit
  -- a solidus (47) and regular bytes, perhaps none: a literal name
  Name : (depth : ℕ) (text run rest : List ℕ)
      → begins is_solidus text ≡ false → IsRegularRun is_regular text run rest → length run ≤ 127
      → Reads depth (47 ∷ text) (Gives (Literal run) (behind rest))
  LongName : (depth : ℕ) (text run rest : List ℕ)
      → begins is_solidus text ≡ false → IsRegularRun is_regular text run rest → 127 < length run
      → Reads depth (47 ∷ text) PassesLimit
  -- two of them: a name that is looked up at once
  NowName : (depth : ℕ) (text run rest : List ℕ)
      → IsRegularRun is_regular text run rest → length run ≤ 127
      → Reads depth (47 ∷ 47 ∷ text) (Gives (Now run) (behind rest))
  LongNow : (depth : ℕ) (text run rest : List ℕ)
      → IsRegularRun is_regular text run rest → 127 < length run
      → Reads depth (47 ∷ 47 ∷ text) PassesLimit
  -- braces (123, 125), of which at most 64 are open
  OpenBrace : (depth : ℕ) (text : List ℕ) → depth < 64 → Reads depth (123 ∷ text) (Gives Open text)
  DeepBrace : (depth : ℕ) (text : List ℕ) → 64 ≤ depth → Reads depth (123 ∷ text) PassesLimit
  CloseBrace : (depth : ℕ) (text : List ℕ) → 0 < depth → Reads depth (125 ∷ text) (Gives Close text)
  LoneBrace : (text : List ℕ) → Reads 0 (125 ∷ text) BreaksSyntax
  -- brackets (91, 93) are executable names
  LeftBracket : (depth : ℕ) (text : List ℕ)
      → Reads depth (91 ∷ text) (Gives (Exec (91 ∷ [])) (behind text))
  RightBracket : (depth : ℕ) (text : List ℕ)
      → Reads depth (93 ∷ text) (Gives (Exec (93 ∷ [])) (behind text))
  -- a hexadecimal string: digits in pairs, and white space, from 60 up to 62
  HexString : (depth : ℕ) (text body rest : List ℕ)
      → IsRegularRun is_hex_or_white text body (62 ∷ rest) → length (pairs (filter is_hex body)) ≤ 65535
      → Reads depth (60 ∷ text) (Gives (Text (pairs (filter is_hex body))) rest)
  LongHex : (depth : ℕ) (text body rest : List ℕ)
      → IsRegularRun is_hex_or_white text body (62 ∷ rest) → 65535 < length (pairs (filter is_hex body))
      → Reads depth (60 ∷ text) PassesLimit
  BadHex : (depth : ℕ) (text body rest : List ℕ)
      → begins is_less text ≡ false → IsRegularRun is_hex_or_white text body rest
      → begins is_greater rest ≡ false
      → Reads depth (60 ∷ text) BreaksSyntax
  -- two less-than (60) or greater-than signs (62) are executable names
  LessLess : (depth : ℕ) (text : List ℕ)
      → Reads depth (60 ∷ 60 ∷ text) (Gives (Exec (60 ∷ 60 ∷ [])) (behind text))
  GreaterGreater : (depth : ℕ) (text : List ℕ)
      → Reads depth (62 ∷ 62 ∷ text) (Gives (Exec (62 ∷ 62 ∷ [])) (behind text))
  LoneGreater : (depth : ℕ) (text : List ℕ)
      → begins is_greater text ≡ false
      → Reads depth (62 ∷ text) BreaksSyntax
  -- a string in parentheses (40, 41)
  ParenString : (depth : ℕ) (text bytes rest : List ℕ)
      → StringBody 0 text bytes rest → length bytes ≤ 65535
      → Reads depth (40 ∷ text) (Gives (Text bytes) rest)
  LongString : (depth : ℕ) (text bytes rest : List ℕ)
      → StringBody 0 text bytes rest → 65535 < length bytes
      → Reads depth (40 ∷ text) PassesLimit
  OpenString : (depth : ℕ) (text : List ℕ)
      → ((bytes rest : List ℕ) → StringBody 0 text bytes rest → ⊥)
      → Reads depth (40 ∷ text) BreaksSyntax
  LoneParen : (depth : ℕ) (text : List ℕ) → Reads depth (41 ∷ text) BreaksSyntax

-- the token of any text: the one behind the white space and comments in front of it
pub record IsRead (depth : ℕ) (text : List ℕ) (outcome : ScanOutcome) : Type 0 where
  pub start : List ℕ
  pub skipped : Skips text start
  pub reads : Reads depth start outcome
