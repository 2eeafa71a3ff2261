-- Strings in parentheses (PostScript Language Reference, third edition, 3.2 Syntax, Strings).
use Rattle.std.specs.Prelude.{◌≡◌, ℕ, suc, ◌+◌, ◌-◌, ◌*◌, ◌%◌, ◌==◌, Bool, true, false, not, ◌&&◌, ◌||◌, List, [], ◌∷◌}
use Rattle.std.specs.Prelude.{if◌then◌else◌, nat_le}
use Rattle.ps_scan.specs.Characters.{begins}

-- octal digits
abbrev pub is_octal : ℕ → Bool
is_octal c = nat_le 48 c && nat_le c 55

-- bytes of a string that stand for themselves: all but parentheses, the backslash and carriage return
unfoldable pub is_plain : ℕ → Bool
is_plain c = not (c == 40 || c == 41 || c == 92 || c == 13)

-- bytes that neither end a line nor are octal digits, behind a backslash
unfoldable pub is_escaped : ℕ → Bool
is_escaped c = not (is_octal c || c == 10 || c == 13)

-- what a byte behind a backslash stands for: n, r, t, b and f for 10, 13, 9, 8 and 12, another for itself
abbrev pub escaped : ℕ → ℕ
escaped c =
    if c == 110 then 10 else if c == 114 then 13 else if c == 116 then 9 else if c == 98 then 8 else if c ==
    102 then 12 else c

-- the text behind a carriage return, without the line feed that goes with it
unfoldable pub after_return : List ℕ → List ℕ
after_return [] = []
after_return (c ∷ cs) = if c == 10 then cs else c ∷ cs

-- the body of a string, inside so many parentheses: its text, the bytes meant, and the text behind its end; parentheses
-- nest, a line end is the byte 10, a backslash before a line end drops both, and one before one to three octal digits
-- gives their value modulo 256
pub data StringBody : ℕ → List ℕ → List ℕ → List ℕ → Type 0 where
  Closes : (rest : List ℕ) → StringBody 0 (41 ∷ rest) [] rest
  ClosesInner : (inner : ℕ) (text bytes rest : List ℕ)
      → StringBody inner text bytes rest
      → StringBody (suc inner) (41 ∷ text) (41 ∷ bytes) rest
  OpensInner : (inner : ℕ) (text bytes rest : List ℕ)
      → StringBody (suc inner) text bytes rest
      → StringBody inner (40 ∷ text) (40 ∷ bytes) rest
  Plain : (inner c : ℕ) (text bytes rest : List ℕ)
      → is_plain c ≡ true
      → StringBody inner text bytes rest
      → StringBody inner (c ∷ text) (c ∷ bytes) rest
  LineEnd : (inner : ℕ) (text bytes rest : List ℕ)
      → StringBody inner (after_return text) bytes rest
      → StringBody inner (13 ∷ text) (10 ∷ bytes) rest
  DropsLine : (inner : ℕ) (text bytes rest : List ℕ)
      → StringBody inner text bytes rest
      → StringBody inner (92 ∷ 10 ∷ text) bytes rest
  DropsReturn : (inner : ℕ) (text bytes rest : List ℕ)
      → StringBody inner (after_return text) bytes rest
      → StringBody inner (92 ∷ 13 ∷ text) bytes rest
  Escaped : (inner c : ℕ) (text bytes rest : List ℕ)
      → is_escaped c ≡ true
      → StringBody inner text bytes rest
      → StringBody inner (92 ∷ c ∷ text) (escaped c ∷ bytes) rest
  -- one to three octal digits, as many as stand there
  OneOctal : (inner a : ℕ) (text bytes rest : List ℕ)
      → is_octal a ≡ true → begins is_octal text ≡ false
      → StringBody inner text bytes rest
      → StringBody inner (92 ∷ a ∷ text) ((a - 48) ∷ bytes) rest
  TwoOctals : (inner a b : ℕ) (text bytes rest : List ℕ)
      → is_octal a ≡ true → is_octal b ≡ true → begins is_octal text ≡ false
      → StringBody inner text bytes rest
      → StringBody inner (92 ∷ a ∷ b ∷ text) ((8 * (a - 48) + (b - 48)) ∷ bytes) rest
  ThreeOctals : (inner a b c : ℕ) (text bytes rest : List ℕ)
      → is_octal a ≡ true → is_octal b ≡ true → is_octal c ≡ true
      → StringBody inner text bytes rest
      → StringBody inner (92 ∷ a ∷ b ∷ c ∷ text) ((8 * (8 * (a - 48) + (b - 48)) + (c - 48)) % 256 ∷ bytes) rest
