-- Each step leaves as many frames as guarded procedures.
use Rattle.std.specs.Prelude.{nat_lt, codes}
use Rattle.std.proofs.Common.{ℕ, true, false, List, [], ◌∷◌, length, Option, Some, None, refl, sym, subst}
use Rattle.press_fault.specs.declared.names.PsName.TheVariants.{StackOverflow, Undefined, SyntaxError, LimitCheck}
use Rattle.ps_scan.specs.declared.token.Token.{Token}
use Rattle.ps_scan.specs.declared.token.Token.TheVariants.{Int, Real, Literal, Exec, Now, Text, Open, Close, End}
use Rattle.ps_scan.specs.Outcome.{ScanOutcome, depth_after}
use Rattle.ps_scan.specs.Outcome.ScanOutcome.{Gives, BreaksSyntax, PassesLimit}
use Rattle.ps_scan.specs.Reading.{scanned}
use Rattle.ps_store.specs.declared.obj.Obj.{Obj}
use Rattle.ps_store.specs.declared.obj.Obj.TheVariants.{Bool as Truth, Int as Integer, Real as RealNumber}
use Rattle.ps_store.specs.declared.obj.Obj.TheVariants.{Text as String, Array, Name}
use Rattle.ps_store.specs.declared.obj.Part.{Part}
use Rattle.ps_store.specs.declared.key.Key.TheVariants.{Named}
use Rattle.ps_store.specs.Store.{StoreValue, element, with_text_of, with_array_of}
use Rattle.ps_store.specs.Dicts.{find_key}
use Rattle.ps_flow.specs.Levels.{Upcoming, next_of}
use Rattle.ps_flow.specs.Levels.Upcoming.{Run, Turn, Passed, Returned, Empty}
use Rattle.ps_machine.specs.Setup.{SetupValue}
use Rattle.ps_machine.specs.State.{BodyValue, opening}
use Rattle.ps_machine.specs.Errors.{failed}
use Rattle.ps_machine.specs.Steps.{execute, turned}
use Rattle.ps_machine.specs.Reading.{met, unmade, met_string, met_procedure, closed, met_value, read_token, after_scan}
use Rattle.ps_machine.specs.Reading.{read, go_on, step_at, step}
use Rattle.ps_laws.specs.Frames.{IsFramed, KeepsFrames}
use Rattle.ps_laws.specs.Reached.{IsReached}
use Rattle.ps_laws.specs.Reached.IsReached.{Start, After, AfterPage}
use Rattle.ps_laws.proofs.Operands.{by_test}
use Rattle.ps_laws.proofs.Guards.{HasBehind, has_behind}
use Rattle.ps_laws.proofs.FramedSteps.{framed_failed, framed_pushes, framed_counted, framed_returned, framed_execute}
use Rattle.ps_laws.proofs.FramedSteps.{framed_turned}

framed_met : (o : Obj) (unclosed : List (List Obj)) (s : BodyValue) → IsFramed s → KeepsFrames (met o unclosed s)
framed_met o [] s h = framed_counted s (execute o) h (λ t k. framed_execute o t k)
framed_met o (elements ∷ outer) s h = h

framed_unmade : (unclosed : List (List Obj)) (s : BodyValue) → IsFramed s → KeepsFrames (unmade unclosed s)
framed_unmade [] s h = by_test KeepsFrames (nat_lt (length s.operands) 500) (failed LimitCheck (codes "scan") s)
    (failed StackOverflow (codes "push") s)
    (λ e. framed_failed LimitCheck (codes "scan") s h) (λ e. framed_failed StackOverflow (codes "push") s h)
framed_unmade (elements ∷ outer) s h = framed_failed LimitCheck (codes "scan") s h

framed_string : (made : Option (Part × StoreValue)) (s : BodyValue) → IsFramed s → KeepsFrames (met_string made s)
framed_string (Some made) s h = framed_met (String made.0) s.unclosed (record s { store = made.1 }) h
framed_string None s h = framed_unmade s.unclosed s h

framed_procedure : (made : Option (Part × StoreValue)) (s : BodyValue) → IsFramed s →
    KeepsFrames (met_procedure made s)
framed_procedure (Some made) s h = framed_met (Array made.0 true) s.unclosed (record s { store = made.1 }) h
framed_procedure None s h = framed_unmade s.unclosed s h

framed_closed : (unclosed : List (List Obj)) (s : BodyValue) → IsFramed s → KeepsFrames (closed unclosed s)
framed_closed [] s h = framed_failed SyntaxError (codes "scan") s h
framed_closed (elements ∷ outer) s h =
    framed_procedure (with_array_of s.store elements) (record s { unclosed = outer }) h

framed_met_value : (name : List ℕ) (value : Option Obj) (s : BodyValue) → IsFramed s →
    KeepsFrames (met_value name value s)
framed_met_value name (Some o) s h = framed_met o s.unclosed s h
framed_met_value name None s h = framed_failed Undefined name s h

framed_token : (token : Token) (s : BodyValue) → IsFramed s → KeepsFrames (read_token token s)
unfolding read_token
framed_token (Int i) s h = framed_met (Integer i) s.unclosed s h
framed_token (Real raw) s h = framed_met (RealNumber raw) s.unclosed s h
framed_token (Literal name) s h = framed_met (Name name false) s.unclosed s h
framed_token (Exec name) s h = framed_met (Name name true) s.unclosed s h
framed_token (Now name) s h = framed_met_value name (find_key s.store s.dicts (Named name)) s h
framed_token (Text bytes) s h = framed_string (with_text_of s.store bytes) s h
framed_token Open s h = h
framed_token Close s h = framed_closed s.unclosed s h
framed_token End s h = tt

framed_scan : (s : BodyValue) (outcome : ScanOutcome) → IsFramed s → KeepsFrames (after_scan outcome s)
framed_scan s (Gives token rest) h = framed_token token
    (record s { text = record { depth = depth_after token s.text.depth; rest = rest } }) h
framed_scan s BreaksSyntax h = framed_failed SyntaxError (codes "scan") s h
framed_scan s PassesLimit h = framed_failed LimitCheck (codes "scan") s h

framed_read : (s : BodyValue) → IsFramed s → KeepsFrames (read s)
unfolding read
framed_read s h = framed_scan s (scanned s.text.depth s.text.rest) h

framed_go : (next : Upcoming) (s : BodyValue) → HasBehind (length s.frames) next s.levels → KeepsFrames (go_on next s)
unfolding go_on
framed_go (Run place) s h = framed_counted s (λ t. execute (element t.store place 0) t) (sym h)
    (λ t k. framed_execute (element t.store place 0) t k)
framed_go (Turn op items) s h = framed_counted s (turned op items) (sym h) (λ t k. framed_turned op items t k)
framed_go Passed s h = framed_pushes (codes "stopped") (Truth false) s (sym h)
framed_go Returned s h = framed_returned s.frames s h
framed_go Empty s h = framed_read s (sym h)

framed_at : (s : BodyValue) (at_once : Option Obj) → IsFramed s → KeepsFrames (step_at at_once s)
framed_at s (Some o) h = framed_execute o (record s { at_once = None }) h
framed_at s None h = framed_go (next_of s.levels).next (record s { levels = (next_of s.levels).levels })
    (subst (λ (n : ℕ). HasBehind n (next_of s.levels).next (next_of s.levels).levels) (sym h) (has_behind s.levels))

-- a step leaves as many frames as guarded procedures
pub framed_kept : (s : BodyValue) → IsFramed s → KeepsFrames (step s)
unfolding step
framed_kept s h = framed_at s s.at_once h

-- a program begins without both
pub opening_framed : (store : StoreValue) (text : List ℕ) (setup : SetupValue) → IsFramed (opening store text setup)
opening_framed store text setup = refl

reached_from : (first s : BodyValue) → IsFramed first → IsReached first s → IsFramed s
reached_from first _ h Start = h
reached_from first _ h (After s t r e) = subst KeepsFrames e (framed_kept s (reached_from first s h r))
reached_from first _ h (AfterPage s t page r e) = subst KeepsFrames e (framed_kept s (reached_from first s h r))

-- each state that a program comes to has as many frames as guarded procedures
pub reached_framed : (store : StoreValue) (text : List ℕ) (setup : SetupValue) (s : BodyValue) →
    IsReached (opening store text setup) s → IsFramed s
reached_framed store text setup s r = reached_from (opening store text setup) s (opening_framed store text setup) r
