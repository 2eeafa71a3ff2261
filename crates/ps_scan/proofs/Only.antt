-- A token that is related to a text is the one that the function finds.
use Rattle.std.proofs.Common.{◌≡◌, ℕ, suc, ◌+◌, ◌*◌, ◌/◌, ◌<◌, ◌≤◌, Bool, true, false, List, [], ◌∷◌, ◌++◌, length}
use Rattle.std.proofs.Common.{drop, arith, ap, sym, refl, ◌∙◌, subst}
use Rattle.std.specs.Prelude.{◌==◌, Option, Some, None}
use Rattle.std.specs.List.{list_all, filter}
use Rattle.std.proofs.lemmas.Bool.{false≢true, le-leb, lt-leb, eqb-true}
use Rattle.std.proofs.lemmas.List.Sums.{length-filter}
use Rattle.std.proofs.lemmas.List.{drop-drop}
use Rattle.std.proofs.Math.Seq.{drop-append_seam}
use Rattle.ps_scan.specs.Characters.{is_hex, digit_value, is_hex_or_white, is_greater, pairs, is_regular, begins}
use Rattle.ps_scan.specs.Characters.{IsRegularRun, white_after}
use Rattle.ps_scan.specs.Strings.{StringBody}
use Rattle.ps_scan.specs.StringReading.{walk}
use Rattle.ps_scan.specs.Numerals.{IsNumeral}
use Rattle.ps_scan.specs.NumeralReading.{numeral_of}
use Rattle.ps_scan.specs.declared.numerals.Numeral.{Numeral}
use Rattle.ps_scan.specs.declared.numerals.Numeral.TheVariants.{Whole, Decimal, TooGreat}
use Rattle.ps_scan.proofs.NumberForms.{numeral_only, numeral_some, no_numeral}
use Rattle.ps_scan.specs.declared.strings.Inside.TheVariants.{Normal}
use Rattle.ps_scan.proofs.Bodies.{body_finds, walk_body}
use Rattle.ps_scan.specs.Reading.{outcome_of, reads, read_word, read_slash, read_literal, read_now, word, named, number}
use Rattle.ps_scan.specs.Reading.{hex_bytes, hex_len, hex_text, read_hex, read_less, read_greater, read_paren}
use Rattle.ps_scan.specs.Reading.Reading.{Found, Malformed, OverLimit}
use Rattle.ps_scan.specs.Outcome.{ScanOutcome}
use Rattle.ps_scan.specs.Grammar.{Reads, behind, number_outcome, is_solidus, is_less}
use Rattle.ps_scan.specs.Outcome.ScanOutcome.{Gives}
use Rattle.ps_scan.specs.Grammar.Reads.{AtEnd, Unclosed, Number, Word, LongWord, Name, LongName, NowName, LongNow}
use Rattle.ps_scan.specs.Grammar.Reads.{OpenBrace, DeepBrace, CloseBrace, LoneBrace, LeftBracket, RightBracket}
use Rattle.ps_scan.specs.Grammar.Reads.{HexString, LongHex, BadHex, LessLess, GreaterGreater, LoneGreater, ParenString}
use Rattle.ps_scan.specs.Grammar.Reads.{LongString, OpenString, LoneParen}
use Rattle.ps_scan.specs.declared.token.Token.{Token}
use Rattle.ps_scan.specs.declared.token.Token.TheVariants.{Int, Real, Literal, Exec, Now, Text}
use Rattle.proof_words.proofs.Tests.{and_first}
use Rattle.proof_words.proofs.Cases.{by_bool}
use Rattle.ps_scan.proofs.Runs.{run_is_len, run_is_take, run_is_drop, drop_more}

-- the white space behind goes with it
with_behind : (token : Token) (used : ℕ) (text rest : List ℕ) → drop used text ≡ rest →
    outcome_of text (Found token (used + white_after (drop used text))) ≡ Gives token (behind rest)
with_behind token used text rest e = rw (sym (drop-drop (white_after (drop used text)) used text), e) refl

named_short : (make : List ℕ → Token) (name : List ℕ) (used : ℕ) (text rest : List ℕ) → length name ≤ 127 →
    drop used text ≡ rest → outcome_of text (named make name used text) ≡ Gives (make name) (behind rest)
unfolding named
named_short make name used text rest h e = rw (le-leb (length name) 127 h) (with_behind (make name) used text rest e)

named_long : (make : List ℕ → Token) (name : List ℕ) (used : ℕ) (text : List ℕ) → 127 < length name →
    named make name used text ≡ OverLimit
unfolding named
named_long make name used text h = rw (lt-leb (length name) 127 h) refl

reads_regular : (depth : ℕ) (text : List ℕ) → begins is_regular text ≡ true → reads depth text ≡ read_word text
unfolding reads
reads_regular depth [] h = absurd (false≢true h)
reads_regular depth (c ∷ cs) h = rw h refl

begins_run : (p : ℕ → Bool) (run rest : List ℕ) → 0 < length run → list_all p run ≡ true → begins p (run ++ rest) ≡ true
begins_run p [] rest h a = absurd (omega (arith, h))
begins_run p (c ∷ cs) rest h a = and_first (p c) (list_all p cs) a

word_reads : (depth : ℕ) (text run rest : List ℕ) → IsRegularRun is_regular text run rest → 0 < length run →
    reads depth text ≡ word run text
unfolding read_word
word_reads depth text run rest r h =
    reads_regular depth text (ap (begins is_regular) r.joined ∙ begins_run is_regular run rest h r.passes)
    ∙ ap (λ front. word front text) (run_is_take is_regular text run rest r)

pub run_behind : (text run rest : List ℕ) → IsRegularRun is_regular text run rest → drop (length run) text ≡ rest
run_behind text run rest r = ap (λ n. drop n text) (sym (run_is_len is_regular text run rest r))
    ∙ run_is_drop is_regular text run rest r

number_reads : (text run rest : List ℕ) (numeral : Numeral) → IsRegularRun is_regular text run rest →
    outcome_of text (number numeral run text) ≡ number_outcome numeral rest
unfolding number
number_reads text run rest (Whole n) r = with_behind (Int n) (length run) text rest (run_behind text run rest r)
number_reads text run rest (Decimal raw) r = with_behind (Real raw) (length run) text rest (run_behind text run rest r)
number_reads text run rest TooGreat r = refl

number_word : (text run : List ℕ) (numeral : Numeral) → IsNumeral run numeral → word run text ≡ number numeral run text
unfolding word
number_word text run numeral i = rw (numeral_only run numeral i) refl

plain_word : (text run : List ℕ) → numeral_of run ≡ None → word run text ≡ named Exec run (length run) text
unfolding word
plain_word text run h = rw h refl

literal_is : (text run rest : List ℕ) → IsRegularRun is_regular text run rest →
    read_literal (47 ∷ text) ≡ named Literal run (1 + length run) (47 ∷ text)
unfolding read_literal
literal_is text run rest r = rw (run_is_take is_regular text run rest r, run_is_len is_regular text run rest r) refl

now_is : (text run rest : List ℕ) → IsRegularRun is_regular text run rest →
    read_now (47 ∷ 47 ∷ text) ≡ named Now run (2 + length run) (47 ∷ 47 ∷ text)
unfolding read_now
now_is text run rest r = rw (run_is_take is_regular text run rest r, run_is_len is_regular text run rest r) refl

slash_other : (text all : List ℕ) → begins is_solidus text ≡ false → read_slash text all ≡ read_literal all
unfolding read_slash
slash_other [] all h = refl
slash_other (c ∷ cs) all h = rw h refl

pub not_zero : (n : ℕ) → 0 < n → (n == 0) ≡ false
not_zero n h = by_bool (n == 0) (λ e. absurd (let z = eqb-true n 0 e in omega arith)) (λ e. e)

two_more : (n : ℕ) → 2 + n ≡ suc (suc n)
two_more n = omega arith

drop_two : (n : ℕ) (text : List ℕ) → drop (2 + n) (47 ∷ 47 ∷ text) ≡ drop n text
drop_two n text = ap (λ k. drop k (47 ∷ 47 ∷ text)) (two_more n)

-- the digits of a body, behind a half byte
abbrev held : Option ℕ → List ℕ → List ℕ
held None ds = pairs ds
held (Some high) [] = (16 * high) ∷ []
held (Some high) (d ∷ ds) = (16 * high + digit_value d) ∷ pairs ds

pairs_held : (d : ℕ) (ds : List ℕ) → pairs (d ∷ ds) ≡ held (Some (digit_value d)) ds
unfolding pairs
pairs_held d [] = refl
pairs_held d (e ∷ ds) = refl

hex_held : (half : Option ℕ) (body : List ℕ) → hex_bytes half body ≡ held half (filter is_hex body)
unfolding hex_bytes pairs
hex_held None [] = refl
hex_held (Some high) [] = refl
hex_held None (c ∷ cs) = by_bool (is_hex c)
    (λ e. rw e (hex_held (Some (digit_value c)) cs ∙ sym (pairs_held c (filter is_hex cs))))
    (λ e. rw e (hex_held None cs))
hex_held (Some high) (c ∷ cs) = by_bool (is_hex c)
    (λ e. rw e (ap (λ bytes. (16 * high + digit_value c) ∷ bytes) (hex_held None cs)))
    (λ e. rw e (hex_held (Some high) cs))

half_more : (n : ℕ) → (suc (suc n) + 1) / 2 ≡ suc ((n + 1) / 2)
half_more n = omega arith

pairs_len : (ds : List ℕ) → length (pairs ds) ≡ (length ds + 1) / 2
unfolding pairs
pairs_len [] = refl
pairs_len (a ∷ []) = refl
pairs_len (a ∷ b ∷ ds) = rw half_more (ap suc (pairs_len ds))

hex_len_is : (body : List ℕ) → hex_len body ≡ length (pairs (filter is_hex body))
hex_len_is body = ap (λ n. (n + 1) / 2) (sym (length-filter is_hex body)) ∙ sym (pairs_len (filter is_hex body))

hex_body : (text body rest : List ℕ) → IsRegularRun is_hex_or_white text body rest → begins is_greater rest ≡ true →
    read_hex text ≡ hex_text body
unfolding read_hex
hex_body text body rest r h = rw (
  run_is_drop is_hex_or_white text body rest r,
  h,
  run_is_take is_hex_or_white text body rest r,
) refl

bad_hex : (text body rest : List ℕ) → IsRegularRun is_hex_or_white text body rest → begins is_greater rest ≡ false →
    read_hex text ≡ Malformed
unfolding read_hex
bad_hex text body rest r h = rw (run_is_drop is_hex_or_white text body rest r, h) refl

-- a text that runs up to a greater-than sign begins with no less-than sign
run_no_less : (body rest : List ℕ) → list_all is_hex_or_white body ≡ true → begins is_less (body ++ (62 ∷ rest)) ≡ false
run_no_less [] rest h = refl
run_no_less (c ∷ cs) rest h = by_bool (c == 60)
    (λ e. absurd (false≢true (subst (λ (d : ℕ). is_hex_or_white d ≡ true) (eqb-true c 60 e)
    (and_first (is_hex_or_white c) (list_all is_hex_or_white cs) h))))
    (λ e. e)

less_hex : (text all : List ℕ) → begins is_less text ≡ false → read_less text all ≡ read_hex text
unfolding read_less read_hex
less_hex [] all h = refl
less_hex (c ∷ cs) all h = rw h refl

hex_fits : (body : List ℕ) → length (pairs (filter is_hex body)) ≤ 65535 →
    hex_text body ≡ Found (Text (pairs (filter is_hex body))) (length body + 2)
unfolding hex_text
hex_fits body h = rw (hex_len_is body, le-leb (length (pairs (filter is_hex body))) 65535 h, hex_held None body) refl

hex_long : (body : List ℕ) → 65535 < length (pairs (filter is_hex body)) → hex_text body ≡ OverLimit
unfolding hex_text
hex_long body h = rw (hex_len_is body, lt-leb (length (pairs (filter is_hex body))) 65535 h) refl

swap_two : (n : ℕ) → n + 2 ≡ suc (n + 1)
swap_two n = omega arith

drop_body : (c : ℕ) (body rest : List ℕ) → drop (length body + 2) (c ∷ (body ++ (62 ∷ rest))) ≡ rest
drop_body c body rest =
    ap (λ n. drop n (c ∷ (body ++ (62 ∷ rest)))) (swap_two (length body))
    ∙ (sym (drop-drop 1 (length body) (body ++ (62 ∷ rest))) ∙ ap (drop 1) (drop-append_seam body (62 ∷ rest)))

less_reads : (depth : ℕ) (text : List ℕ) → begins is_less text ≡ false → reads depth (60 ∷ text) ≡ read_hex text
unfolding reads is_regular
less_reads depth text h = less_hex text (60 ∷ text) h

hex_reads : (depth : ℕ) (text body rest : List ℕ) → IsRegularRun is_hex_or_white text body (62 ∷ rest) →
    reads depth (60 ∷ text) ≡ hex_text body
hex_reads depth text body rest r =
    less_reads depth text (ap (begins is_less) r.joined ∙ run_no_less body rest r.passes)
    ∙ hex_body text body (62 ∷ rest) r refl

greater_lone : (text all : List ℕ) → begins is_greater text ≡ false → read_greater text all ≡ Malformed
unfolding read_greater
greater_lone [] all h = refl
greater_lone (c ∷ cs) all h = rw h refl

drop_two_of : (n a b : ℕ) (text : List ℕ) → drop (2 + n) (a ∷ b ∷ text) ≡ drop n text
drop_two_of n a b text = ap (λ k. drop k (a ∷ b ∷ text)) (two_more n)

paren_fits : (text bytes rest : List ℕ) → StringBody 0 text bytes rest → length bytes ≤ 65535 →
    read_paren text ≡ Found (Text bytes) (1 + (walk Normal 0 text).used)
unfolding read_paren
paren_fits text bytes rest b h = let f = body_finds 0 text bytes rest b in
    rw (f.closed, f.meant, le-leb (length bytes) 65535 h) refl

paren_long : (text bytes rest : List ℕ) → StringBody 0 text bytes rest → 65535 < length bytes →
    read_paren text ≡ OverLimit
unfolding read_paren
paren_long text bytes rest b h = let f = body_finds 0 text bytes rest b in
    rw (f.closed, f.meant, lt-leb (length bytes) 65535 h) refl

paren_open : (text : List ℕ) → ((bytes rest : List ℕ) → StringBody 0 text bytes rest → ⊥) → read_paren text ≡ Malformed
unfolding read_paren
paren_open text n = by_bool ((walk Normal 0 text).closed) (λ e. absurd (n _ _ (walk_body 0 text e))) (λ e. rw e refl)

-- the grammar gives a text no other outcome than the function does
pub reads_only : (depth : ℕ) (text : List ℕ) (outcome : ScanOutcome) → Reads depth text outcome →
    outcome ≡ outcome_of text (reads depth text)
unfolding reads read_slash read_less read_greater is_regular
reads_only _ _ _ AtEnd = refl
reads_only _ _ _ (Unclosed depth h) = rw (not_zero depth h) refl
reads_only _ _ _ (Number depth text run rest numeral r i) =
    sym (ap (outcome_of text) (word_reads depth text run rest r (numeral_some run numeral i)
    ∙ number_word text run numeral i) ∙ number_reads text run rest numeral r)
reads_only _ _ _ (Word depth text run rest r s n h) =
    sym (ap (outcome_of text) (word_reads depth text run rest r s ∙ plain_word text run (no_numeral run n))
    ∙ named_short Exec run (length run) text rest h (run_behind text run rest r))
reads_only _ _ _ (LongWord depth text run rest r n h) =
    sym (ap (outcome_of text) (word_reads depth text run rest r (omega (arith, h))
    ∙ (plain_word text run (no_numeral run n) ∙ named_long Exec run (length run) text h)))
reads_only _ _ _ (Name depth text run rest s r h) =
    sym (ap (outcome_of (47 ∷ text)) (slash_other text (47 ∷ text) s ∙ literal_is text run rest r)
    ∙ named_short Literal run (1 + length run) (47 ∷ text) rest h
    (drop_more (length run) 47 text ∙ run_behind text run rest r))
reads_only _ _ _ (LongName depth text run rest s r h) =
    sym (ap (outcome_of (47 ∷ text)) (slash_other text (47 ∷ text) s
    ∙ (literal_is text run rest r ∙ named_long Literal run (1 + length run) (47 ∷ text) h)))
reads_only _ _ _ (NowName depth text run rest r h) =
    sym (ap (outcome_of (47 ∷ 47 ∷ text)) (now_is text run rest r)
    ∙ named_short Now run (2 + length run) (47 ∷ 47 ∷ text) rest h
    (drop_two (length run) text ∙ run_behind text run rest r))
reads_only _ _ _ (LongNow depth text run rest r h) =
    sym (ap (outcome_of (47 ∷ 47 ∷ text)) (now_is text run rest r
    ∙ named_long Now run (2 + length run) (47 ∷ 47 ∷ text) h))
reads_only _ _ _ (OpenBrace depth text h) = rw (le-leb (suc depth) 64 h) refl
reads_only _ _ _ (DeepBrace depth text h) = rw (lt-leb (suc depth) 64 (omega (arith, h))) refl
reads_only _ _ _ (CloseBrace depth text h) = rw (le-leb 1 depth h) refl
reads_only _ _ _ (LoneBrace text) = refl
reads_only _ _ _ (LeftBracket depth text) = rw (drop_more (white_after text) 91 text) refl
reads_only _ _ _ (RightBracket depth text) = rw (drop_more (white_after text) 93 text) refl
reads_only _ _ _ (HexString depth text body rest r h) =
    sym (ap (outcome_of (60 ∷ text)) (hex_reads depth text body rest r ∙ hex_fits body h)
    ∙ ap (Gives (Text (pairs (filter is_hex body))))
    (ap (λ whole. drop (length body + 2) (60 ∷ whole)) r.joined ∙ drop_body 60 body rest))
reads_only _ _ _ (LongHex depth text body rest r h) =
    sym (ap (outcome_of (60 ∷ text)) (hex_reads depth text body rest r ∙ hex_long body h))
reads_only _ _ _ (BadHex depth text body rest s r h) =
    sym (ap (outcome_of (60 ∷ text)) (less_reads depth text s ∙ bad_hex text body rest r h))
reads_only _ _ _ (LessLess depth text) = rw (drop_two_of (white_after text) 60 60 text) refl
reads_only _ _ _ (GreaterGreater depth text) = rw (drop_two_of (white_after text) 62 62 text) refl
reads_only _ _ _ (LoneGreater depth text h) = sym (ap (outcome_of (62 ∷ text)) (greater_lone text (62 ∷ text) h))
reads_only _ _ _ (LoneParen depth text) = refl
reads_only _ _ _ (ParenString depth text bytes rest b h) =
    sym (ap (outcome_of (40 ∷ text)) (paren_fits text bytes rest b h)
    ∙ ap (Gives (Text bytes)) (drop_more (walk Normal 0 text).used 40 text ∙ (body_finds 0 text bytes rest b).left))
reads_only _ _ _ (LongString depth text bytes rest b h) =
    sym (ap (outcome_of (40 ∷ text)) (paren_long text bytes rest b h))
reads_only _ _ _ (OpenString depth text n) = sym (ap (outcome_of (40 ∷ text)) (paren_open text n))
