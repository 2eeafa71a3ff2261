-- The token at the front of a text, found by its first byte. Own rule: the function that Grammar is
-- proved against, and that the meaning of a program cites.
use Rattle.std.specs.Prelude.{◌≡◌, ℕ, ◌+◌, ◌*◌, ◌/◌, ◌==◌, Bool, true, false, not, ◌||◌, List, [], ◌∷◌, length, take}
use Rattle.std.specs.Prelude.{drop, if◌then◌else◌, nat_le, nat_lt, Option, Some, None}
use Rattle.std.specs.List.{prefix_len, count_by}
use Rattle.ps_scan.specs.Characters.{is_hex, digit_value, is_hex_or_white, begins, is_greater, is_white, is_line_end}
use Rattle.ps_scan.specs.Characters.{is_regular, white_after}
use Rattle.ps_scan.specs.StringReading.{walk}
use Rattle.ps_scan.specs.declared.strings.Inside.TheVariants.{Normal}
use Rattle.ps_scan.specs.NumeralReading.{numeral_of}
use Rattle.ps_scan.specs.declared.numerals.Numeral.{Numeral}
use Rattle.ps_scan.specs.declared.numerals.Numeral.TheVariants.{Whole, Decimal, TooGreat}
use Rattle.ps_scan.specs.declared.token.Token.{Token}
use Rattle.ps_scan.specs.declared.token.Token.TheVariants.{Int, Real, Literal, Exec, Now, Text, Open, Close, End}
use Rattle.ps_scan.specs.declared.token.ScanFault.{ScanFault}
use Rattle.ps_scan.specs.declared.token.ScanFault.TheVariants.{Syntax, Limit, NoMemory}
use Rattle.ps_scan.specs.Outcome.{ScanOutcome, IsText}
use Rattle.ps_scan.specs.Outcome.ScanOutcome.{Gives, BreaksSyntax, PassesLimit}

-- a token and how many bytes it takes, or why there is none
pub data Reading : Type 0 where
  Found : Token → ℕ → Reading
  Malformed : Reading
  OverLimit : Reading

-- a token of a string was found
abbrev pub FindsText : Reading → Type 0
FindsText (Found token used) = IsText token
FindsText Malformed = ⊥
FindsText OverLimit = ⊥

-- the fault that stands in place of a token; memory is wanted for a string alone
abbrev pub IsScanRefusal : ScanFault → Reading → Type 0
IsScanRefusal Syntax reading = reading ≡ Malformed
IsScanRefusal Limit reading = reading ≡ OverLimit
IsScanRefusal NoMemory reading = FindsText reading

-- how many bytes of white space and comments stand in front; first whether a comment is open
unfoldable pub blank_len : Bool → List ℕ → ℕ
blank_len comment [] = 0
blank_len comment (c ∷ cs) =
    if comment then 1 + blank_len (not (is_line_end c)) cs
    else if c == 37 then 1 + blank_len true cs
    else if is_white c then 1 + blank_len false cs
    else 0

-- a token with the white space behind it
abbrev pub and_white : Token → ℕ → List ℕ → Reading
and_white token used text = Found token (used + white_after (drop used text))

-- a name of at most 127 bytes, with the white space behind it, else a limit
unfoldable pub named : (List ℕ → Token) → List ℕ → ℕ → List ℕ → Reading
named make name used text = if nat_le (length name) 127 then and_white (make name) used text else OverLimit

-- a number with the white space behind it, unless it passes a limit
unfoldable pub number : Numeral → List ℕ → List ℕ → Reading
number (Whole n) run text = and_white (Int n) (length run) text
number (Decimal raw) run text = and_white (Real raw) (length run) text
number TooGreat run text = OverLimit

-- a run by the number that it is, if it is one, else as an executable name
abbrev pub word_as : Option Numeral → List ℕ → List ℕ → Reading
word_as None run text = named Exec run (length run) text
word_as (Some numeral) run text = number numeral run text

-- a run of regular bytes: a number by its form, else an executable name
unfoldable pub word : List ℕ → List ℕ → Reading
word run text = word_as (numeral_of run) run text

-- the token of the run of regular bytes in front
unfoldable pub read_word : List ℕ → Reading
read_word text = word (take (prefix_len is_regular text) text) text

-- a literal name behind one solidus
unfoldable pub read_literal : List ℕ → Reading
read_literal text =
    named Literal (take (prefix_len is_regular (drop 1 text)) (drop 1 text))
    (1 + prefix_len is_regular (drop 1 text)) text

-- a name behind two, which is looked up at once
unfoldable pub read_now : List ℕ → Reading
read_now text =
    named Now (take (prefix_len is_regular (drop 2 text)) (drop 2 text))
    (2 + prefix_len is_regular (drop 2 text)) text

-- the bytes of hexadecimal digits, of which half a byte is held
unfoldable pub hex_bytes : Option ℕ → List ℕ → List ℕ
hex_bytes None [] = []
hex_bytes (Some high) [] = (16 * high) ∷ []
hex_bytes None (c ∷ cs) = if is_hex c then hex_bytes (Some (digit_value c)) cs else hex_bytes None cs
hex_bytes (Some high) (c ∷ cs) =
    if is_hex c then (16 * high + digit_value c) ∷ hex_bytes None cs else hex_bytes (Some high) cs

-- how many bytes the hexadecimal digits of a body stand for
abbrev pub hex_len : List ℕ → ℕ
hex_len body = (count_by is_hex body + 1) / 2

-- the string of the hexadecimal digits of a body, at most 65,535 bytes, else a limit
unfoldable pub hex_text : List ℕ → Reading
hex_text body =
    if nat_le (hex_len body) 65535 then Found (Text (hex_bytes None body)) (length body + 2) else OverLimit

-- a hexadecimal string behind a less-than sign, up to `>`; another byte or the end of the text breaks the syntax
unfoldable pub read_hex : List ℕ → Reading
read_hex text =
    if begins is_greater (drop (prefix_len is_hex_or_white text) text)
    then hex_text (take (prefix_len is_hex_or_white text) text)
    else Malformed

-- behind a less-than sign: the name `<<`, else a hexadecimal string
unfoldable pub read_less : List ℕ → List ℕ → Reading
read_less [] text = Malformed
read_less (c ∷ cs) text =
    if c == 60 then and_white (Exec (60 ∷ 60 ∷ [])) 2 text else read_hex (c ∷ cs)

-- behind a greater-than sign: the name `>>`; a lone one breaks the syntax
unfoldable pub read_greater : List ℕ → List ℕ → Reading
read_greater [] text = Malformed
read_greater (c ∷ cs) text = if c == 62 then and_white (Exec (62 ∷ 62 ∷ [])) 2 text else Malformed

-- a string behind a left parenthesis, at most 65,535 bytes; one that doesn't end breaks the syntax
unfoldable pub read_paren : List ℕ → Reading
read_paren text =
    if (walk Normal 0 text).closed
    then (if nat_le (length (walk Normal 0 text).bytes) 65535
    then Found (Text (walk Normal 0 text).bytes) (1 + (walk Normal 0 text).used)
    else OverLimit)
    else Malformed

-- behind a solidus: a literal name, or behind a second one a name that is looked up at once
unfoldable pub read_slash : List ℕ → List ℕ → Reading
read_slash [] text = read_literal text
read_slash (c ∷ cs) text = if c == 47 then read_now text else read_literal text

-- the end of the text, where no procedure is open, else a fault of syntax
abbrev pub ended : ℕ → Reading
ended depth = if depth == 0 then Found End 0 else Malformed

-- a procedure begins, where fewer than 64 are open, else a limit
abbrev pub opened : ℕ → Reading
opened depth = if nat_lt depth 64 then Found Open 1 else OverLimit

-- a procedure ends, where one is open, else a fault of syntax
abbrev pub closed : ℕ → Reading
closed depth = if nat_lt 0 depth then Found Close 1 else Malformed

-- the token at the front of a text that begins with no blank, where so many procedures are open, and how many bytes it
-- takes
unfoldable pub reads : ℕ → List ℕ → Reading
reads depth [] = ended depth
reads depth (c ∷ cs) =
    if is_regular c then read_word (c ∷ cs)
    else if c == 47 then read_slash cs (c ∷ cs)
    else if c == 123 then opened depth
    else if c == 125 then closed depth
    else if c == 91 || c == 93 then and_white (Exec (c ∷ [])) 1 (c ∷ cs)
    else if c == 60 then read_less cs (c ∷ cs)
    else if c == 62 then read_greater cs (c ∷ cs)
    else if c == 40 then read_paren cs
    else Malformed

-- the token and the text behind it
abbrev pub outcome_of : List ℕ → Reading → ScanOutcome
outcome_of text (Found token used) = Gives token (drop used text)
outcome_of text Malformed = BreaksSyntax
outcome_of text OverLimit = PassesLimit

-- the text behind the white space and comments in front
abbrev pub start_of : List ℕ → List ℕ
start_of text = drop (blank_len false text) text

-- the token at the front of a text, where so many procedures are open
unfoldable pub scanned : ℕ → List ℕ → ScanOutcome
scanned depth text = outcome_of (start_of text) (reads depth (start_of text))
