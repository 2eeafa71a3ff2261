-- How much of a text a token takes.
use Rattle.std.proofs.Common.{◌≡◌, ◌≤◌, ◌<◌, ℕ, ◌+◌, ◌-◌, Bool, List, [], ◌∷◌, length, drop, refl, ap, ◌∙◌, subst}
use Rattle.std.proofs.Common.{arith}
use Rattle.std.proofs.lemmas.List.{length-append, length-drop}
use Rattle.ps_scan.specs.Characters.{IsRegularRun}
use Rattle.ps_scan.specs.Grammar.{IsRead, Reads, Skips, behind, number_outcome}
use Rattle.ps_scan.specs.Grammar.Skips.{NoBlank, White, Comment}
use Rattle.ps_scan.specs.Grammar.Reads.{AtEnd, Unclosed, Number, Word, LongWord, Name, LongName, NowName, LongNow}
use Rattle.ps_scan.specs.Grammar.Reads.{OpenBrace, DeepBrace, CloseBrace, LoneBrace, LeftBracket, RightBracket}
use Rattle.ps_scan.specs.Grammar.Reads.{HexString, LongHex, BadHex, LessLess, GreaterGreater, LoneGreater, ParenString}
use Rattle.ps_scan.specs.Grammar.Reads.{LongString, OpenString, LoneParen}
use Rattle.ps_scan.specs.Outcome.{ScanOutcome}
use Rattle.ps_scan.specs.Outcome.ScanOutcome.{Gives, BreaksSyntax, PassesLimit}
use Rattle.ps_scan.specs.Reading.{scanned, blank_len, reads}
use Rattle.ps_scan.specs.StringReading.{walk}
use Rattle.ps_scan.specs.Strings.{StringBody}
use Rattle.ps_scan.specs.declared.numerals.Numeral.{Numeral}
use Rattle.ps_scan.specs.declared.numerals.Numeral.TheVariants.{Whole, Decimal, TooGreat}
use Rattle.ps_scan.specs.declared.strings.Inside.TheVariants.{Normal}
use Rattle.ps_scan.specs.declared.token.Token.{Token}
use Rattle.ps_scan.specs.declared.token.Token.TheVariants.{End}
use Rattle.ps_scan.proofs.Bodies.{body_finds}
use Rattle.ps_scan.proofs.Bounds.{scanned_bounded}
use Rattle.ps_scan.proofs.NumberForms.{numeral_some}
use Rattle.ps_scan.proofs.Unique.{is_read}

drop_len : (n : ℕ) (text : List ℕ) → length (drop n text) ≤ length text
drop_len n text = let e = length-drop n text in omega (arith, e)

behind_len : (rest : List ℕ) → length (behind rest) ≤ length rest
behind_len rest = drop_len _ rest

run_len : (p : ℕ → Bool) (text run rest : List ℕ) → IsRegularRun p text run rest →
    length text ≡ length run + length rest
run_len p text run rest r = ap length r.joined ∙ length-append run rest

body_len : (text bytes rest : List ℕ) → StringBody 0 text bytes rest → length rest ≤ length text
body_len text bytes rest b = let f = body_finds 0 text bytes rest b in
    subst (λ (r : List ℕ). length r ≤ length text) f.left (drop_len (walk Normal 0 text).used text)

-- a token leaves less than the whole text; only an empty text is left as it is
abbrev Shortens : List ℕ → ScanOutcome → Type 0
Shortens text (Gives token rest) = length rest ≤ length text - 1
Shortens text BreaksSyntax = Unit {0}
Shortens text PassesLimit = Unit {0}

run_shortens : (p : ℕ → Bool) (text run rest : List ℕ) → IsRegularRun p text run rest → 0 < length run →
    length (behind rest) ≤ length text - 1
run_shortens p text run rest r h = let e = run_len p text run rest r in let b = behind_len rest in
    omega (arith, e, b, h)

number_shortens : (p : ℕ → Bool) (text run rest : List ℕ) (numeral : Numeral) → IsRegularRun p text run rest →
    0 < length run → Shortens text (number_outcome numeral rest)
number_shortens p text run rest (Whole n) r h = run_shortens p text run rest r h
number_shortens p text run rest (Decimal raw) r h = run_shortens p text run rest r h
number_shortens p text run rest TooGreat r h = tt

reads_shorten : (depth : ℕ) (text : List ℕ) (outcome : ScanOutcome) → Reads depth text outcome → Shortens text outcome
reads_shorten _ _ _ AtEnd = omega arith
reads_shorten _ _ _ (Unclosed depth h) = tt
reads_shorten _ _ _ (Number depth text run rest numeral r i) =
    number_shortens _ text run rest numeral r (numeral_some run numeral i)
reads_shorten _ _ _ (Word depth text run rest r s n h) = run_shortens _ text run rest r s
reads_shorten _ _ _ (LongWord depth text run rest r n h) = tt
reads_shorten _ _ _ (Name depth text run rest s r h) = let e = run_len _ text run rest r in let b = behind_len rest in
    omega (arith, e, b)
reads_shorten _ _ _ (LongName depth text run rest s r h) = tt
reads_shorten _ _ _ (NowName depth text run rest r h) = let e = run_len _ text run rest r in let b = behind_len rest in
    omega (arith, e, b)
reads_shorten _ _ _ (LongNow depth text run rest r h) = tt
reads_shorten _ _ _ (OpenBrace depth text h) = omega arith
reads_shorten _ _ _ (DeepBrace depth text h) = tt
reads_shorten _ _ _ (CloseBrace depth text h) = omega arith
reads_shorten _ _ _ (LoneBrace text) = tt
reads_shorten _ _ _ (LeftBracket depth text) = let b = behind_len text in omega (arith, b)
reads_shorten _ _ _ (RightBracket depth text) = let b = behind_len text in omega (arith, b)
reads_shorten _ _ _ (HexString depth text body rest r h) = let e = run_len _ text body (62 ∷ rest) r in omega (arith, e)
reads_shorten _ _ _ (LongHex depth text body rest r h) = tt
reads_shorten _ _ _ (BadHex depth text body rest s r h) = tt
reads_shorten _ _ _ (LessLess depth text) = let b = behind_len text in omega (arith, b)
reads_shorten _ _ _ (GreaterGreater depth text) = let b = behind_len text in omega (arith, b)
reads_shorten _ _ _ (LoneGreater depth text h) = tt
reads_shorten _ _ _ (LoneParen depth text) = tt
reads_shorten _ _ _ (ParenString depth text bytes rest b h) = let e = body_len text bytes rest b in omega (arith, e)
reads_shorten _ _ _ (LongString depth text bytes rest b h) = tt
reads_shorten _ _ _ (OpenString depth text n) = tt

skips_len : (text start : List ℕ) → Skips text start → length start ≤ length text
skips_len _ _ (NoBlank text h) = omega arith
skips_len _ _ (White c text rest h s) = let e = skips_len text rest s in omega (arith, e)
skips_len _ _ (Comment text body tail rest r s) = let e = skips_len tail rest s in let l = run_len _ text body tail r in
    omega (arith, e, l)

-- a token takes at least one byte of a text that has one
pub scanned_shorter : (depth : ℕ) (text rest : List ℕ) (token : Token) → scanned depth text ≡ Gives token rest →
    0 < length text → length rest < length text
scanned_shorter depth text rest token e some =
    let r : IsRead depth text (Gives token rest) =
    subst (λ (o : ScanOutcome). IsRead depth text o) e (is_read depth text) in
    let s : length rest ≤ length r.start - 1 = reads_shorten depth r.start (Gives token rest) r.reads in
    let l = skips_len text r.start r.skipped in
    omega (arith, s, l, some)

empty_ends : scanned 0 [] ≡ Gives End []
unfolding scanned blank_len reads
empty_ends = refl

-- the end is met again each time
pub end_again : (depth : ℕ) (text rest : List ℕ) → scanned depth text ≡ Gives End rest →
    scanned depth rest ≡ Gives End rest
end_again depth text rest e =
    let w = scanned_bounded depth text rest End e in
    rw (w.0, w.1) empty_ends
