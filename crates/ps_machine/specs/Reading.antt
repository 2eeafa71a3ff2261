-- The program's text, read one token at a time (PostScript Language Reference, third edition, 3.2 Syntax and 3.5
-- Execution). Own rules: `scan` and `push` are the commands of what the text itself is refused for; an object that is
-- to be executed at once isn't counted.
use Rattle.std.specs.Prelude.{ℕ, true, false, List, [], ◌∷◌, length, Option, Some, None, nat_lt, if◌then◌else◌, codes}
use Rattle.press_fault.specs.declared.names.PsName.TheVariants.{StackOverflow, Undefined, SyntaxError, LimitCheck}
use Rattle.ps_scan.specs.declared.token.Token.{Token}
use Rattle.ps_scan.specs.declared.token.Token.TheVariants.{Int, Real, Literal, Exec, Now, Text, Open, Close, End}
use Rattle.ps_scan.specs.Outcome.{ScanOutcome, depth_after}
use Rattle.ps_scan.specs.Outcome.ScanOutcome.{Gives, BreaksSyntax, PassesLimit}
use Rattle.ps_scan.specs.Reading.{scanned}
use Rattle.ps_store.specs.declared.obj.Obj.{Obj}
use Rattle.ps_store.specs.declared.obj.Obj.TheVariants.{Bool as Truth, Int as Integer, Real as RealNumber}
use Rattle.ps_store.specs.declared.obj.Obj.TheVariants.{Text as String, Array, Name}
use Rattle.ps_store.specs.declared.obj.Part.{Part}
use Rattle.ps_store.specs.declared.key.Key.TheVariants.{Named}
use Rattle.ps_store.specs.Store.{StoreValue, element, with_text_of, with_array_of}
use Rattle.ps_store.specs.Dicts.{find_key}
use Rattle.ps_flow.specs.Levels.{Upcoming, Next, next_of}
use Rattle.ps_flow.specs.Levels.Upcoming.{Run, Turn, Passed, Returned, Empty}
use Rattle.ps_machine.specs.declared.turn.End.TheVariants.{Done}
use Rattle.ps_machine.specs.State.{BodyValue}
use Rattle.ps_machine.specs.Nested.{with_innermost}
use Rattle.ps_machine.specs.Errors.{StepOutcome, Goes, Ends, failed, pushes, counted}
use Rattle.ps_machine.specs.Images.{returned}
use Rattle.ps_machine.specs.Steps.{execute, turned}

-- an object of the text: an element of the procedure that is open, else it is executed
abbrev pub met : Obj → List (List Obj) → BodyValue → StepOutcome
met o [] s = counted s (execute o)
met o (elements ∷ outer) s = Goes (record s { unclosed = with_innermost (elements ∷ outer) o })

-- A string or a procedure that a limit refuses. Where it would be pushed on full operands, that comes instead.
abbrev pub unmade : List (List Obj) → BodyValue → StepOutcome
unmade [] s =
    if nat_lt (length s.operands) 500 then failed LimitCheck (codes "scan") s else failed StackOverflow (codes "push") s
unmade (elements ∷ outer) s = failed LimitCheck (codes "scan") s

-- a string of the text, once it is made, or refused by a limit
abbrev pub met_string : Option (Part × StoreValue) → BodyValue → StepOutcome
met_string (Some made) s = met (String made.0) s.unclosed (record s { store = made.1 })
met_string None s = unmade s.unclosed s

-- a procedure of the text, once it is made, or refused by a limit
abbrev pub met_procedure : Option (Part × StoreValue) → BodyValue → StepOutcome
met_procedure (Some made) s = met (Array made.0 true) s.unclosed (record s { store = made.1 })
met_procedure None s = unmade s.unclosed s

-- the innermost open procedure is made at its end; syntaxerror in `scan` where none is open
abbrev pub closed : List (List Obj) → BodyValue → StepOutcome
closed [] s = failed SyntaxError (codes "scan") s
closed (elements ∷ outer) s = met_procedure (with_array_of s.store elements) (record s { unclosed = outer })

-- a name that is looked up at once: its value stands in its place
abbrev pub met_value : List ℕ → Option Obj → BodyValue → StepOutcome
met_value name (Some o) s = met o s.unclosed s
met_value name None s = failed Undefined name s

-- what a token does, once the text is behind it
unfoldable pub read_token : Token → BodyValue → StepOutcome
read_token (Int n) s = met (Integer n) s.unclosed s
read_token (Real raw) s = met (RealNumber raw) s.unclosed s
read_token (Literal name) s = met (Name name false) s.unclosed s
read_token (Exec name) s = met (Name name true) s.unclosed s
read_token (Now name) s = met_value name (find_key s.store s.dicts (Named name)) s
read_token (Text bytes) s = met_string (with_text_of s.store bytes) s
read_token Open s = Goes (record s { unclosed = [] ∷ s.unclosed })
read_token Close s = closed s.unclosed s
read_token End s = Ends Done

-- what was scanned does: a token what it says; no token is syntaxerror or limitcheck, and the command is `scan`
abbrev pub after_scan : ScanOutcome → BodyValue → StepOutcome
after_scan (Gives token rest) s = read_token token
    (record s { text = record { depth = depth_after token s.text.depth; rest = rest } })
after_scan BreaksSyntax s = failed SyntaxError (codes "scan") s
after_scan PassesLimit s = failed LimitCheck (codes "scan") s

-- a step by the next token of the text
unfoldable pub read : BodyValue → StepOutcome
read s = after_scan (scanned s.text.depth s.text.rest) s

-- what comes next of the levels: an object and a turn count; the end of a `stopped` doesn't, and pushes false, nor does
-- the end of a guarded procedure, after which its operator goes on; where no level is open the text is read
unfoldable pub go_on : Upcoming → BodyValue → StepOutcome
go_on (Run place) s = counted s (λ t. execute (element t.store place 0) t)
go_on (Turn op items) s = counted s (turned op items)
go_on Passed s = pushes (codes "stopped") (Truth false) s
go_on Returned s = returned s.frames s
go_on Empty s = read s

-- a step by what comes next of the levels, and the levels then
abbrev pub step_next : BodyValue → Next → StepOutcome
step_next s next = go_on next.next (record s { levels = next.levels })

-- a step where an object may be to be executed at once, which isn't counted
abbrev pub step_at : Option Obj → BodyValue → StepOutcome
step_at (Some o) s = execute o (record s { at_once = None })
step_at None s = step_next s (next_of s.levels)

-- one step of the interpreter
unfoldable pub step : BodyValue → StepOutcome
step s = step_at s.at_once s
