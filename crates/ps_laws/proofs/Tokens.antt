-- What is read leaves fewer steps: a token takes at least one byte of the text.
use Rattle.std.specs.Prelude.{nat_lt, ◌==◌, codes}
use Rattle.std.proofs.Common.{◌≡◌, ℕ, ◌+◌, ◌≤◌, true, false, List, [], ◌∷◌, length, Option, Some, None, refl, sym}
use Rattle.std.proofs.Common.{subst, ap, arith}
use Rattle.press_fault.specs.declared.names.PsName.TheVariants.{StackOverflow, Undefined, SyntaxError, LimitCheck}
use Rattle.ps_scan.specs.declared.token.Token.{Token}
use Rattle.ps_scan.specs.declared.token.Token.TheVariants.{Int, Real, Literal, Exec, Now, Text, Open, Close, End}
use Rattle.ps_scan.specs.Outcome.{ScanOutcome, depth_after}
use Rattle.ps_scan.specs.Outcome.ScanOutcome.{Gives, BreaksSyntax, PassesLimit}
use Rattle.ps_scan.specs.Reading.{Reading, Found, Malformed, outcome_of, scanned, blank_len, reads}
use Rattle.ps_scan.proofs.Consumed.{scanned_shorter}
use Rattle.ps_store.specs.declared.obj.Obj.{Obj}
use Rattle.ps_store.specs.declared.obj.Obj.TheVariants.{Int as Integer, Real as RealNumber, Text as String, Array, Name}
use Rattle.ps_store.specs.declared.obj.Part.{Part}
use Rattle.ps_store.specs.declared.key.Key.TheVariants.{Named}
use Rattle.ps_store.specs.Store.{StoreValue, with_text_of, with_array_of}
use Rattle.ps_store.specs.Dicts.{find_key}
use Rattle.ps_machine.specs.State.{BodyValue}
use Rattle.ps_machine.specs.Errors.{failed}
use Rattle.ps_machine.specs.Steps.{execute}
use Rattle.ps_machine.specs.Reading.{met, unmade, met_string, met_procedure, closed, met_value, read_token, after_scan}
use Rattle.ps_machine.specs.Reading.{read}
use Rattle.ps_laws.proofs.Weight.{budget, Limits, Lowers, Idle, idle_zero}
use Rattle.ps_laws.proofs.Operands.{by_test}
use Rattle.ps_laws.proofs.Failing.{lowers_failed, ends_failed, lowers_counted}
use Rattle.ps_laws.proofs.Steps.{lowers_execute}

-- no object waits, and there are steps for a byte more
abbrev pub Rich : ℕ → BodyValue → Type 0
Rich n s = Limits s × (s.at_once ≡ None) × (budget s + 1300 ≤ n)

rich_idle : (n : ℕ) (s : BodyValue) → Rich n s → Idle n s
rich_idle n s h = (h.0, h.1, omega arith)

lowers_met : (n : ℕ) (o : Obj) (unclosed : List (List Obj)) (s : BodyValue) → Rich n s → Lowers n (met o unclosed s)
lowers_met n o [] s h = lowers_counted n s (execute o) (h.0, h.1, omega arith) (λ t r room. lowers_execute n o t r)
lowers_met n o (elements ∷ outer) s h = let w = idle_zero s.at_once (length s.operands) h.1 in (h.0, omega arith)

lowers_unmade : (n : ℕ) (unclosed : List (List Obj)) (s : BodyValue) → Rich n s → Lowers n (unmade unclosed s)
lowers_unmade n [] s h = by_test (Lowers n) (nat_lt (length s.operands) 500) (failed LimitCheck (codes "scan") s)
    (failed StackOverflow (codes "push") s)
    (λ e. lowers_failed n LimitCheck (codes "scan") s (rich_idle n s h))
    (λ e. lowers_failed n StackOverflow (codes "push") s (rich_idle n s h))
lowers_unmade n (elements ∷ outer) s h = lowers_failed n LimitCheck (codes "scan") s (rich_idle n s h)

lowers_string : (n : ℕ) (made : Option (Part × StoreValue)) (s : BodyValue) → Rich n s → Lowers n (met_string made s)
lowers_string n (Some made) s h = lowers_met n (String made.0) s.unclosed (record s { store = made.1 }) h
lowers_string n None s h = lowers_unmade n s.unclosed s h

lowers_procedure : (n : ℕ) (made : Option (Part × StoreValue)) (s : BodyValue) → Rich n s →
    Lowers n (met_procedure made s)
lowers_procedure n (Some made) s h = lowers_met n (Array made.0 true) s.unclosed (record s { store = made.1 }) h
lowers_procedure n None s h = lowers_unmade n s.unclosed s h

lowers_closed : (n : ℕ) (unclosed : List (List Obj)) (s : BodyValue) → Rich n s → Lowers n (closed unclosed s)
lowers_closed n [] s h = lowers_failed n SyntaxError (codes "scan") s (rich_idle n s h)
lowers_closed n (elements ∷ outer) s h =
    lowers_procedure n (with_array_of s.store elements) (record s { unclosed = outer }) h

lowers_met_value : (n : ℕ) (name : List ℕ) (value : Option Obj) (s : BodyValue) → Rich n s →
    Lowers n (met_value name value s)
lowers_met_value n name (Some o) s h = lowers_met n o s.unclosed s h
lowers_met_value n name None s h = lowers_failed n Undefined name s (rich_idle n s h)

lowers_token : (n : ℕ) (token : Token) (s : BodyValue) → Rich n s → Lowers n (read_token token s)
unfolding read_token
lowers_token n (Int i) s h = lowers_met n (Integer i) s.unclosed s h
lowers_token n (Real raw) s h = lowers_met n (RealNumber raw) s.unclosed s h
lowers_token n (Literal name) s h = lowers_met n (Name name false) s.unclosed s h
lowers_token n (Exec name) s h = lowers_met n (Name name true) s.unclosed s h
lowers_token n (Now name) s h = lowers_met_value n name (find_key s.store s.dicts (Named name)) s h
lowers_token n (Text bytes) s h = lowers_string n (with_text_of s.store bytes) s h
lowers_token n Open s h = let w = idle_zero s.at_once (length s.operands) h.1 in (h.0, omega arith)
lowers_token n Close s h = lowers_closed n s.unclosed s h
lowers_token n End s h = tt

end_lowers : (n : ℕ) (s : BodyValue) → Lowers n (read_token End s)
unfolding read_token
end_lowers n s = tt

-- an empty text gives its end alone
abbrev OnlyEnds : ScanOutcome → Type 0
OnlyEnds (Gives token rest) = token ≡ End
OnlyEnds BreaksSyntax = Unit {0}
OnlyEnds PassesLimit = Unit {0}

only_ends : (depth : ℕ) → OnlyEnds (scanned depth [])
unfolding scanned blank_len reads
only_ends depth = by_test (λ (r : Reading). OnlyEnds (outcome_of [] r)) (depth == 0) (Found End 0) Malformed (λ e. refl)
    (λ e. tt)

lowers_scan : (n : ℕ) (s : BodyValue) (text : List ℕ) (outcome : ScanOutcome) → Limits s → s.at_once ≡ None →
    s.levels ≡ [] → budget s ≤ n → s.text.rest ≡ text → scanned s.text.depth text ≡ outcome →
    Lowers n (after_scan outcome s)
lowers_scan n s text BreaksSyntax h none empty room is e = ends_failed n SyntaxError (codes "scan") s empty
lowers_scan n s text PassesLimit h none empty room is e = ends_failed n LimitCheck (codes "scan") s empty
lowers_scan n s [] (Gives token rest) h none empty room is e =
    let at_end : token ≡ End = subst OnlyEnds e (only_ends s.text.depth) in
    let t : BodyValue = record s { text = record { depth = depth_after token s.text.depth; rest = rest } } in
    subst (λ (k : Token). Lowers n (read_token k t)) (sym at_end) (end_lowers n t)
lowers_scan n s (c ∷ cs) (Gives token rest) h none empty room is e =
    let shorter = scanned_shorter s.text.depth (c ∷ cs) rest token e (omega arith) in
    let len : length s.text.rest ≡ length (c ∷ cs) = ap length is in
    lowers_token n token (record s { text = record { depth = depth_after token s.text.depth; rest = rest } })
    (h, none, omega arith)

-- the next token leaves fewer steps, as it shortens the text
pub lowers_read : (n : ℕ) (s : BodyValue) → Limits s → s.at_once ≡ None → s.levels ≡ [] → budget s ≤ n →
    Lowers n (read s)
unfolding read
lowers_read n s h none empty room = lowers_scan n s s.text.rest
    (scanned s.text.depth s.text.rest) h none empty room refl refl
