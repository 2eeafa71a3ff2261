-- The bounds of each token that the grammar relates to a text.
use Rattle.std.proofs.Common.{◌≡◌, ℕ, ◌+◌, List, false, drop, refl, lit≤, subst, sym, ap, ◌∙◌}
use Rattle.std.proofs.lemmas.List.{drop-drop}
use Rattle.ps_scan.specs.Grammar.{IsRead, Reads, number_outcome}
use Rattle.ps_scan.specs.declared.numerals.Numeral.{Numeral}
use Rattle.ps_scan.specs.declared.numerals.Numeral.TheVariants.{Whole, Decimal, TooGreat}
use Rattle.ps_scan.specs.Grammar.Reads.{AtEnd, Unclosed, Number, Word, LongWord, Name, LongName, NowName, LongNow}
use Rattle.ps_scan.specs.Grammar.Reads.{OpenBrace, DeepBrace, CloseBrace, LoneBrace, LeftBracket, RightBracket}
use Rattle.ps_scan.specs.Grammar.Reads.{HexString, LongHex, BadHex, LessLess, GreaterGreater, LoneGreater, ParenString}
use Rattle.ps_scan.specs.Grammar.Reads.{LongString, OpenString, LoneParen}
use Rattle.ps_scan.specs.Outcome.{ScanOutcome, IsWithinLimits}
use Rattle.ps_scan.specs.Outcome.ScanOutcome.{Gives, BreaksSyntax, PassesLimit}
use Rattle.ps_scan.specs.Reading.{reads, blank_len, start_of, outcome_of, scanned}
use Rattle.ps_scan.specs.Reading.Reading.{Found}
use Rattle.ps_scan.specs.declared.token.Token.{Token}
use Rattle.ps_scan.proofs.Unique.{is_read}

abbrev Bounded : ℕ → ScanOutcome → Type 0
Bounded depth (Gives token rest) = IsWithinLimits depth token rest
Bounded depth BreaksSyntax = Unit {0}
Bounded depth PassesLimit = Unit {0}

number_bounded : (depth : ℕ) (numeral : Numeral) (rest : List ℕ) → Bounded depth (number_outcome numeral rest)
number_bounded depth (Whole n) rest = tt
number_bounded depth (Decimal raw) rest = tt
number_bounded depth TooGreat rest = tt

reads_bounded : (depth : ℕ) (text : List ℕ) (outcome : ScanOutcome) → Reads depth text outcome → Bounded depth outcome
reads_bounded _ _ _ AtEnd = (refl, refl)
reads_bounded _ _ _ (Unclosed depth h) = tt
reads_bounded _ _ _ (Number depth text run rest numeral r i) = number_bounded depth numeral rest
reads_bounded _ _ _ (Word depth text run rest r s n h) = h
reads_bounded _ _ _ (LongWord depth text run rest r n h) = tt
reads_bounded _ _ _ (Name depth text run rest s r h) = h
reads_bounded _ _ _ (LongName depth text run rest s r h) = tt
reads_bounded _ _ _ (NowName depth text run rest r h) = h
reads_bounded _ _ _ (LongNow depth text run rest r h) = tt
reads_bounded _ _ _ (OpenBrace depth text h) = h
reads_bounded _ _ _ (DeepBrace depth text h) = tt
reads_bounded _ _ _ (CloseBrace depth text h) = h
reads_bounded _ _ _ (LoneBrace text) = tt
reads_bounded _ _ _ (LeftBracket depth text) = lit≤ tt
reads_bounded _ _ _ (RightBracket depth text) = lit≤ tt
reads_bounded _ _ _ (HexString depth text body rest r h) = h
reads_bounded _ _ _ (LongHex depth text body rest r h) = tt
reads_bounded _ _ _ (BadHex depth text body rest s r h) = tt
reads_bounded _ _ _ (LessLess depth text) = lit≤ tt
reads_bounded _ _ _ (GreaterGreater depth text) = lit≤ tt
reads_bounded _ _ _ (LoneGreater depth text h) = tt
reads_bounded _ _ _ (LoneParen depth text) = tt
reads_bounded _ _ _ (ParenString depth text bytes rest b h) = h
reads_bounded _ _ _ (LongString depth text bytes rest b h) = tt
reads_bounded _ _ _ (OpenString depth text n) = tt

-- each token that is scanned is within the limits
pub scanned_bounded : (depth : ℕ) (text rest : List ℕ) (token : Token) → scanned depth text ≡ Gives token rest →
    IsWithinLimits depth token rest
scanned_bounded depth text rest token e =
    let r : IsRead depth text (Gives token rest) =
    subst (λ (o : ScanOutcome). IsRead depth text o) e (is_read depth text) in
    reads_bounded depth r.start (Gives token rest) r.reads

-- the same of what is found behind the blanks
pub found_bounded : (depth : ℕ) (text start : List ℕ) (blank used : ℕ) (token : Token) → blank ≡ blank_len false text →
    start ≡ drop blank text → reads depth start ≡ Found token used →
    IsWithinLimits depth token (drop (blank + used) text)
unfolding scanned
found_bounded depth text start blank used token b s r =
    let at : start ≡ start_of text = s ∙ ap (λ n. drop n text) b in
    let found : scanned depth text ≡ Gives token (drop used start) = ap (λ t. outcome_of t (reads depth t)) (sym at)
    ∙ ap (outcome_of start) r in
    let tail : drop used start ≡ drop (blank + used) text = ap (drop used) s ∙ drop-drop used blank text in
    scanned_bounded depth text _ token (found ∙ ap (Gives token) tail)
