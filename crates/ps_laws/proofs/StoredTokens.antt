-- What is read leaves what is of the store.
use Rattle.std.specs.Prelude.{nat_lt, codes}
use Rattle.std.proofs.Common.{ℕ, true, false, List, [], ◌∷◌, length, Option, Some, None, sym, subst}
use Rattle.press_fault.specs.declared.names.PsName.TheVariants.{StackOverflow, Undefined, SyntaxError, LimitCheck}
use Rattle.ps_scan.specs.declared.token.Token.{Token}
use Rattle.ps_scan.specs.declared.token.Token.TheVariants.{Int, Real, Literal, Exec, Now, Text, Open, Close, End}
use Rattle.ps_scan.specs.Outcome.{ScanOutcome, depth_after}
use Rattle.ps_scan.specs.Outcome.ScanOutcome.{Gives, BreaksSyntax, PassesLimit}
use Rattle.ps_scan.specs.Reading.{scanned}
use Rattle.ps_store.specs.declared.obj.Obj.{Obj}
use Rattle.ps_store.specs.declared.obj.Obj.TheVariants.{Int as Integer, Real as RealNumber, Text as String, Array, Name}
use Rattle.ps_store.specs.declared.obj.Part.{Part}
use Rattle.ps_store.specs.declared.key.Key.TheVariants.{Named}
use Rattle.ps_store.specs.Store.{StoreValue, with_text_of, with_array_of}
use Rattle.ps_store.specs.Dicts.{find_key}
use Rattle.ps_machine.specs.State.{BodyValue}
use Rattle.ps_machine.specs.Errors.{failed}
use Rattle.ps_machine.specs.Steps.{execute}
use Rattle.ps_machine.specs.Reading.{met, unmade, met_string, met_procedure, closed, met_value, read_token, after_scan}
use Rattle.ps_machine.specs.Reading.{read}
use Rattle.std.proofs.Common.{◌++◌}
use Rattle.ps_machine.specs.Nested.{with_element}
use Rattle.std.specs.Prelude.{nat_lt}
use Rattle.ps_laws.specs.Stored.{Each, IsOf}
use Rattle.ps_laws.proofs.Operands.{by_test}
use Rattle.ps_laws.proofs.Each.{OfSome, Made, each_append, made_text_of, made_array_of}
use Rattle.ps_laws.proofs.StoredData.{find_is}
use Rattle.ps_laws.proofs.StoredFailing.{Stored, Keeps, stored_grown, keeps_failed, keeps_counted}
use Rattle.ps_laws.proofs.StoredSteps.{keeps_execute}

element_of : (m : ℕ) (elements : List Obj) (o : Obj) → IsOf m o → Each (IsOf m) elements →
    Each (IsOf m) (with_element elements o)
element_of m elements o f h = by_test (Each (IsOf m)) (nat_lt (length elements) 65536) (elements ++ o ∷ []) elements
    (λ e. each_append (IsOf m) elements (o ∷ []) h (f, tt)) (λ e. h)

keeps_met : (o : Obj) (unclosed : List (List Obj)) (s : BodyValue) → IsOf (length s.store.made) o →
    Each (Each (IsOf (length s.store.made))) unclosed → Stored s → Keeps (met o unclosed s)
keeps_met o [] s f u h = keeps_counted s (execute o) h
    (λ t k e. keeps_execute o t (subst (λ (w : StoreValue). IsOf (length w.made) o) (sym e) f) k)
keeps_met o (elements ∷ outer) s f u h =
    (h.0, h.1, h.2, h.3, h.4, (element_of (length s.store.made) elements o f u.0, u.1), h.6)

keeps_unmade : (unclosed : List (List Obj)) (s : BodyValue) → Stored s → Keeps (unmade unclosed s)
keeps_unmade [] s h = by_test Keeps (nat_lt (length s.operands) 500) (failed LimitCheck (codes "scan") s)
    (failed StackOverflow (codes "push") s)
    (λ e. keeps_failed LimitCheck (codes "scan") s h) (λ e. keeps_failed StackOverflow (codes "push") s h)
keeps_unmade (elements ∷ outer) s h = keeps_failed LimitCheck (codes "scan") s h

keeps_string : (made : Option (Part × StoreValue)) (s : BodyValue) → OfSome (Made (length s.store.made)) made →
    Stored s → Keeps (met_string made s)
keeps_string (Some made) s f h = let g = stored_grown s made.1 h f.0 in
    keeps_met (String made.0) s.unclosed (record s { store = made.1 }) f.1 g.5 g
keeps_string None s f h = keeps_unmade s.unclosed s h

keeps_procedure : (made : Option (Part × StoreValue)) (s : BodyValue) → OfSome (Made (length s.store.made)) made →
    Stored s → Keeps (met_procedure made s)
keeps_procedure (Some made) s f h = let g = stored_grown s made.1 h f.0 in
    keeps_met (Array made.0 true) s.unclosed (record s { store = made.1 }) f.1 g.5 g
keeps_procedure None s f h = keeps_unmade s.unclosed s h

keeps_closed : (unclosed : List (List Obj)) (s : BodyValue) → Each (Each (IsOf (length s.store.made))) unclosed →
    Stored s → Keeps (closed unclosed s)
keeps_closed [] s u h = keeps_failed SyntaxError (codes "scan") s h
keeps_closed (elements ∷ outer) s u h = keeps_procedure (with_array_of s.store elements) (record s { unclosed = outer })
    (made_array_of s.store elements h.0 u.0) (h.0, h.1, h.2, h.3, h.4, u.1, h.6)

keeps_met_value : (name : List ℕ) (value : Option Obj) (s : BodyValue) → OfSome (IsOf (length s.store.made)) value →
    Stored s → Keeps (met_value name value s)
keeps_met_value name (Some o) s f h = keeps_met o s.unclosed s f h.5 h
keeps_met_value name None s f h = keeps_failed Undefined name s h

keeps_token : (token : Token) (s : BodyValue) → Stored s → Keeps (read_token token s)
unfolding read_token
keeps_token (Int i) s h = keeps_met (Integer i) s.unclosed s tt h.5 h
keeps_token (Real raw) s h = keeps_met (RealNumber raw) s.unclosed s tt h.5 h
keeps_token (Literal name) s h = keeps_met (Name name false) s.unclosed s tt h.5 h
keeps_token (Exec name) s h = keeps_met (Name name true) s.unclosed s tt h.5 h
keeps_token (Now name) s h = keeps_met_value name (find_key s.store s.dicts (Named name)) s
    (find_is s.store s.dicts (Named name) h.0) h
keeps_token (Text bytes) s h = keeps_string (with_text_of s.store bytes) s (made_text_of s.store bytes h.0) h
keeps_token Open s h = (h.0, h.1, h.2, h.3, h.4, (tt, h.5), h.6)
keeps_token Close s h = keeps_closed s.unclosed s h.5 h
keeps_token End s h = tt

keeps_scan : (s : BodyValue) (outcome : ScanOutcome) → Stored s → Keeps (after_scan outcome s)
keeps_scan s (Gives token rest) h = keeps_token token
    (record s { text = record { depth = depth_after token s.text.depth; rest = rest } }) h
keeps_scan s BreaksSyntax h = keeps_failed SyntaxError (codes "scan") s h
keeps_scan s PassesLimit h = keeps_failed LimitCheck (codes "scan") s h

-- the next token leaves what is of the store
pub keeps_read : (s : BodyValue) → Stored s → Keeps (read s)
unfolding read
keeps_read s h = keeps_scan s (scanned s.text.depth s.text.rest) h
