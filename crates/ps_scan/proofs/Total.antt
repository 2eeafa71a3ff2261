-- Each text has a token or a fault.
use Rattle.std.proofs.Common.{inl, inr, ◌≡◌, ℕ, zero, suc, ◌<◌, Bool, true, false, leb, List, [], ◌∷◌, length, take}
use Rattle.std.proofs.Common.{drop, arith, sym, refl, ◌∙◌, subst}
use Rattle.std.specs.Prelude.{◌==◌, ◌||◌}
use Rattle.std.specs.List.{prefix_len, filter}
use Rattle.std.proofs.lemmas.Bool.{false≢true, leb-true, leb-false, eqb-true}
use Rattle.ps_scan.specs.Characters.{is_hex, is_hex_or_white, pairs, is_white, is_regular, begins, IsRegularRun}
use Rattle.ps_scan.proofs.NumberForms.{numeral_total}
use Rattle.ps_scan.specs.Strings.{StringBody}
use Rattle.ps_scan.specs.StringReading.{walk}
use Rattle.ps_scan.specs.declared.strings.Inside.TheVariants.{Normal}
use Rattle.ps_scan.proofs.Bodies.{body_finds, walk_body}
use Rattle.ps_scan.specs.Reading.{reads, outcome_of}
use Rattle.ps_scan.specs.Outcome.{ScanOutcome}
use Rattle.ps_scan.specs.Grammar.{Reads, behind, number_outcome, is_solidus, is_less}
use Rattle.ps_scan.specs.Outcome.ScanOutcome.{Gives, BreaksSyntax, PassesLimit}
use Rattle.ps_scan.specs.Grammar.Reads.{AtEnd, Unclosed, Number, Word, LongWord, Name, LongName, NowName, LongNow}
use Rattle.ps_scan.specs.Grammar.Reads.{OpenBrace, DeepBrace, CloseBrace, LoneBrace, LeftBracket, RightBracket}
use Rattle.ps_scan.specs.Grammar.Reads.{HexString, LongHex, BadHex, LessLess, GreaterGreater, LoneGreater, ParenString}
use Rattle.ps_scan.specs.Grammar.Reads.{LongString, OpenString, LoneParen}
use Rattle.ps_scan.specs.declared.token.Token.TheVariants.{Literal, Exec, Now, Text, Open, Close, End}
use Rattle.ps_scan.specs.Grammar.{is_blank}
use Rattle.ps_scan.proofs.Only.{reads_only}
use Rattle.proof_words.proofs.Cases.{by_bool}
use Rattle.ps_scan.proofs.Runs.{run_is_len, front_is_run}

abbrev pub is_paren : ℕ → Bool
is_paren c = c == 40

pub not_either : (a b : Bool) → (a || b) ≡ false → (a ≡ false) × (b ≡ false)
not_either true b h = absurd (false≢true (sym h))
not_either false b h = (refl, h)

abbrev Some_reads : ℕ → List ℕ → Type 0
Some_reads depth text = (o : ScanOutcome) × Reads depth text o

-- the delimiters but for the percent sign
delimiter_is : (P : ℕ → Type 0) (c : ℕ) → is_regular c ≡ false → is_blank c ≡ false → P 40 → P 41 → P 60 → P 62 → P 91 →
    P 93 → P 123 → P 125 → P 47 → P c
unfolding is_regular
delimiter_is P c h b p40 p41 p60 p62 p91 p93 p123 p125 p47 =
    by_bool (c == 40) (λ e. subst P (sym (eqb-true c 40 e)) p40) (λ e40.
    by_bool (c == 41) (λ e. subst P (sym (eqb-true c 41 e)) p41) (λ e41.
    by_bool (c == 60) (λ e. subst P (sym (eqb-true c 60 e)) p60) (λ e60.
    by_bool (c == 62) (λ e. subst P (sym (eqb-true c 62 e)) p62) (λ e62.
    by_bool (c == 91) (λ e. subst P (sym (eqb-true c 91 e)) p91) (λ e91.
    by_bool (c == 93) (λ e. subst P (sym (eqb-true c 93 e)) p93) (λ e93.
    by_bool (c == 123) (λ e. subst P (sym (eqb-true c 123 e)) p123) (λ e123.
    by_bool (c == 125) (λ e. subst P (sym (eqb-true c 125 e)) p125) (λ e125.
    by_bool (c == 47) (λ e. subst P (sym (eqb-true c 47 e)) p47) (λ e47.
    absurd (let w = not_either (is_white c) (c == 37) b in let k : true ≡ false =
    rw (w.0, e40, e41, e60, e62, e91, e93, e123, e125, e47, w.1) at h in false≢true (sym k)))))))))))

word_total : (depth c : ℕ) (cs : List ℕ) → is_regular c ≡ true → Some_reads depth (c ∷ cs)
word_total depth c cs h =
    let run = take (prefix_len is_regular (c ∷ cs)) (c ∷ cs) in
    let rest = drop (prefix_len is_regular (c ∷ cs)) (c ∷ cs) in
    let r : IsRegularRun is_regular (c ∷ cs) run rest = front_is_run is_regular (c ∷ cs) in
    let some : 0 < length run = rw (sym (run_is_len is_regular (c ∷ cs) run rest r), h) (omega arith) in
    elim (numeral_total run) [
      | inl found ↦ (number_outcome found.0 rest, Number depth (c ∷ cs) run rest found.0 r found.1)
      | inr none ↦ by_bool (leb (length run) 127)
          (λ f. (
            Gives (Exec run) (behind rest),
            Word depth (c ∷ cs) run rest r some none
                (leb-true (length run) 127 f),
          ))
          (λ f. (PassesLimit, LongWord depth (c ∷ cs) run rest r none (leb-false (length run) 127 f)))
    ]

name_total : (depth : ℕ) (text : List ℕ) → begins is_solidus text ≡ false → Some_reads depth (47 ∷ text)
name_total depth text s =
    let run = take (prefix_len is_regular text) text in
    let rest = drop (prefix_len is_regular text) text in
    let r : IsRegularRun is_regular text run rest = front_is_run is_regular text in
    by_bool (leb (length run) 127)
    (λ f. (Gives (Literal run) (behind rest), Name depth text run rest s r (leb-true (length run) 127 f)))
    (λ f. (PassesLimit, LongName depth text run rest s r (leb-false (length run) 127 f)))

now_total : (depth : ℕ) (text : List ℕ) → Some_reads depth (47 ∷ 47 ∷ text)
now_total depth text =
    let run = take (prefix_len is_regular text) text in
    let rest = drop (prefix_len is_regular text) text in
    let r : IsRegularRun is_regular text run rest = front_is_run is_regular text in
    by_bool (leb (length run) 127)
    (λ f. (Gives (Now run) (behind rest), NowName depth text run rest r (leb-true (length run) 127 f)))
    (λ f. (PassesLimit, LongNow depth text run rest r (leb-false (length run) 127 f)))

slash_total : (depth : ℕ) (text : List ℕ) → Some_reads depth (47 ∷ text)
slash_total depth [] = name_total depth [] refl
slash_total depth (c ∷ cs) = by_bool (c == 47)
    (λ e. subst (λ (d : ℕ). Some_reads depth (47 ∷ d ∷ cs)) (sym (eqb-true c 47 e)) (now_total depth cs))
    (λ e. name_total depth (c ∷ cs) e)

hex_total : (depth : ℕ) (text body tail : List ℕ) → begins is_less text ≡ false →
    IsRegularRun is_hex_or_white text body tail → Some_reads depth (60 ∷ text)
hex_total depth text body [] s r = (BreaksSyntax, BadHex depth text body [] s r refl)
hex_total depth text body (c ∷ cs) s r = by_bool (c == 62)
    (λ e. let q : IsRegularRun is_hex_or_white text body (62 ∷ cs) =
    subst (λ (d : ℕ). IsRegularRun is_hex_or_white text body (d ∷ cs)) (eqb-true c 62 e) r in
    let bytes = pairs (filter is_hex body) in
    by_bool (leb (length bytes) 65535)
    (λ f. (Gives (Text bytes) cs, HexString depth text body cs q (leb-true (length bytes) 65535 f)))
    (λ f. (PassesLimit, LongHex depth text body cs q (leb-false (length bytes) 65535 f))))
    (λ e. (BreaksSyntax, BadHex depth text body (c ∷ cs) s r e))

less_total : (depth : ℕ) (text : List ℕ) → Some_reads depth (60 ∷ text)
less_total depth [] = hex_total depth [] [] [] refl (front_is_run is_hex_or_white [])
less_total depth (c ∷ cs) = by_bool (c == 60)
    (λ e. subst (λ (d : ℕ). Some_reads depth (60 ∷ d ∷ cs)) (sym (eqb-true c 60 e))
    (Gives (Exec (60 ∷ 60 ∷ [])) (behind cs), LessLess depth cs))
    (λ e. hex_total depth (c ∷ cs) _ _ e (front_is_run is_hex_or_white (c ∷ cs)))

greater_total : (depth : ℕ) (text : List ℕ) → Some_reads depth (62 ∷ text)
greater_total depth [] = (BreaksSyntax, LoneGreater depth [] refl)
greater_total depth (c ∷ cs) = by_bool (c == 62)
    (λ e. subst (λ (d : ℕ). Some_reads depth (62 ∷ d ∷ cs)) (sym (eqb-true c 62 e))
    (Gives (Exec (62 ∷ 62 ∷ [])) (behind cs), GreaterGreater depth cs))
    (λ e. (BreaksSyntax, LoneGreater depth (c ∷ cs) e))

no_body : (text : List ℕ) → (walk Normal 0 text).closed ≡ false → (bytes rest : List ℕ) → StringBody 0 text bytes rest →
    ⊥
no_body text e bytes rest b = false≢true (sym e ∙ (body_finds 0 text bytes rest b).closed)

paren_total : (depth : ℕ) (text : List ℕ) → Some_reads depth (40 ∷ text)
paren_total depth text = by_bool ((walk Normal 0 text).closed)
    (λ e. let bytes = (walk Normal 0 text).bytes in let rest = drop (walk Normal 0 text).used text in
    by_bool (leb (length bytes) 65535)
    (λ f. (
      Gives (Text bytes) rest,
      ParenString depth text bytes rest (walk_body 0 text e)
          (leb-true (length bytes) 65535 f),
    ))
    (λ f. (PassesLimit, LongString depth text bytes rest (walk_body 0 text e) (leb-false (length bytes) 65535 f))))
    (λ e. (BreaksSyntax, OpenString depth text (no_body text e)))

open_total : (depth : ℕ) (text : List ℕ) → Some_reads depth (123 ∷ text)
open_total depth text = by_bool (leb 64 depth)
    (λ f. (PassesLimit, DeepBrace depth text (leb-true 64 depth f)))
    (λ f. (Gives Open text, OpenBrace depth text (leb-false 64 depth f)))

close_total : (depth : ℕ) (text : List ℕ) → Some_reads depth (125 ∷ text)
close_total zero text = (BreaksSyntax, LoneBrace text)
close_total (suc d) text = (Gives Close text, CloseBrace (suc d) text (omega arith))

end_total : (depth : ℕ) → Some_reads depth []
end_total zero = (Gives End [], AtEnd)
end_total (suc d) = (BreaksSyntax, Unclosed (suc d) (omega arith))

reads_total : (depth : ℕ) (text : List ℕ) → begins is_blank text ≡ false → Some_reads depth text
reads_total depth [] b = end_total depth
reads_total depth (c ∷ cs) b = by_bool (is_regular c)
    (λ h. word_total depth c cs h)
    (λ h. delimiter_is (λ d. Some_reads depth (d ∷ cs)) c h b
    (paren_total depth cs)
    ((BreaksSyntax, LoneParen depth cs))
    (less_total depth cs)
    (greater_total depth cs)
    ((Gives (Exec (91 ∷ [])) (behind cs), LeftBracket depth cs))
    ((Gives (Exec (93 ∷ [])) (behind cs), RightBracket depth cs))
    (open_total depth cs)
    (close_total depth cs)
    (slash_total depth cs))

-- what the function finds is related to the text
pub reads_found : (depth : ℕ) (text : List ℕ) → begins is_blank text ≡ false →
    Reads depth text (outcome_of text (reads depth text))
reads_found depth text b =
    let found = reads_total depth text b in
    subst (λ (o : ScanOutcome). Reads depth text o) (reads_only depth text found.0 found.1) found.1
