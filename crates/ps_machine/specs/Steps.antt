-- What is executed (PostScript Language Reference, third edition, 3.5 Execution). Own rules: at most 250 levels; a
-- turn of a loop pushes all that it has to push, or nothing.
use Rattle.std.specs.Prelude.{ℕ, ◌+◌, true, List, ◌∷◌, length, Option, Some, None, nat_lt, nat_le, if◌then◌else◌, codes}
use Rattle.press_fault.specs.declared.names.PsName.TheVariants.{StackOverflow, Undefined, ExecStackOverflow}
use Rattle.ps_store.specs.declared.obj.Obj.{Obj}
use Rattle.ps_store.specs.declared.obj.Obj.TheVariants.{Bool as Truth, Array, Name, Oper as Operator}
use Rattle.ps_store.specs.declared.oper.Oper.{Oper}
use Rattle.ps_store.specs.declared.oper.Oper.TheVariants.{Stack, Data, Flow, Gfx, Page, Space, Image, Font}
use Rattle.ps_store.specs.declared.oper.FlowOp.{FlowOp}
use Rattle.ps_store.specs.declared.oper.FlowOp.TheVariants as OnFlow
use Rattle.ps_store.specs.declared.oper.PageOp.TheVariants.{Quit, Showpage}
use Rattle.ps_store.specs.declared.key.Key.TheVariants.{Named}
use Rattle.ps_store.specs.Operators.{name_of, flow_name_of}
use Rattle.ps_store.specs.Outcome.{Outcome, Goes as GoesOn, Refuses}
use Rattle.ps_store.specs.Store.{StoreValue}
use Rattle.ps_store.specs.Dicts.{find_key}
use Rattle.ps_store.specs.Desk.{OperandsAndStore}
use Rattle.ps_stack_ops.specs.Rows.{stack_row}
use Rattle.ps_data_ops.specs.Rows.{DataState, data_row}
use Rattle.ps_flow.specs.declared.level.Level.TheVariants.{Procedure}
use Rattle.ps_flow.specs.declared.level.Level.{Level}
use Rattle.ps_flow.specs.declared.pushes.Pushes.{Pushes}
use Rattle.ps_flow.specs.Pushes.{with_pushes, number_of_pushes}
use Rattle.ps_flow.specs.Course.{OperandsAndLevels}
use Rattle.ps_flow.specs.Rows.{flow_row}
use Rattle.gfx_state.specs.Graphics.{with_initial, erased, page_of}
use Rattle.ps_gfx_ops.specs.Scene.{GraphicsScene}
use Rattle.ps_gfx_ops.specs.Rows.{gfx_row}
use Rattle.ps_image_ops.specs.Rows.{image_row}
use Rattle.ps_machine.specs.declared.turn.End.TheVariants.{Done}
use Rattle.ps_machine.specs.State.{BodyValue, cut_back_to}
use Rattle.ps_machine.specs.Errors.{StepOutcome, Goes, Shows, Ends, failed, pushes, counted}
use Rattle.ps_machine.specs.Images.{after_image}

-- the state by what an operator on the operands says, or its error, with its name as the command
abbrev pub after_stack : Outcome OperandsAndStore → List ℕ → BodyValue → StepOutcome
after_stack (GoesOn desk) command s = Goes (record s { operands = desk.operands; store = desk.store })
after_stack (Refuses name) command s = failed name command s

-- what data operators work on
abbrev pub work_of : BodyValue → DataState
work_of s = record { operands = s.operands; store = s.store; dicts = s.dicts; file = s.text }

-- the state by what a data operator says, or its error, with its name as the command
abbrev pub after_data : Outcome DataState → List ℕ → BodyValue → StepOutcome
after_data (GoesOn work) command s =
    Goes (record s { operands = work.operands; store = work.store; dicts = work.dicts; text = work.file })
after_data (Refuses name) command s = failed name command s

-- the state by what a graphics operator says, or its error, with its name as the command
abbrev pub after_gfx : Outcome GraphicsScene → List ℕ → BodyValue → StepOutcome
after_gfx (GoesOn scene) command s = Goes
    (record s { operands = scene.operands; store = scene.store; graphics = scene.graphics })
after_gfx (Refuses name) command s = failed name command s

-- the state by what an operator on the execution stack says, or its error; its object to be executed at once comes next
abbrev pub after_flow : Outcome (OperandsAndLevels × StoreValue) → List ℕ → BodyValue → StepOutcome
after_flow (GoesOn course) command s =
    Goes (record s {
      operands = course.0.operands;
      store = course.1;
      levels = course.0.levels;
      at_once =
          course.0.at_once;
    })
after_flow (Refuses name) command s = failed name command s

-- `stop` cuts levels and frames back to those below the innermost `stopped`, which then gives true
abbrev pub after_stop : Outcome (OperandsAndLevels × StoreValue) → List ℕ → BodyValue → StepOutcome
after_stop (GoesOn course) command s =
    pushes (codes "stopped") (Truth true) (record (cut_back_to course.0.levels s) {
      operands = course.0.operands;
      store = course.1;
    })
after_stop (Refuses name) command s = failed name command s

-- an operator on the execution stack does its row; `stop` pushes true besides
abbrev pub operate_flow : FlowOp → BodyValue → StepOutcome
operate_flow OnFlow.Stop s = after_stop (flow_row OnFlow.Stop s.operands s.levels s.store s.dicts) (codes "stop") s
operate_flow op s = after_flow (flow_row op s.operands s.levels s.store s.dicts) (flow_name_of op) s

-- the state after `showpage`: no marks, and what `initgraphics` sets
abbrev pub shown : BodyValue → BodyValue
shown s = record s { graphics = with_initial (erased s.graphics) }

-- an operator does its row; `quit` ends the program, and `showpage` shows the page; one on colour spaces or fonts,
-- which isn't built and which no program finds, is undefined by its name
unfoldable pub operate : Oper → BodyValue → StepOutcome
operate (Stack op) s = after_stack (stack_row op s.operands s.store) (name_of (Stack op)) s
operate (Data op) s = after_data (data_row op (work_of s)) (name_of (Data op)) s
operate (Flow op) s = operate_flow op s
operate (Gfx op) s = after_gfx (gfx_row op s.operands s.store s.graphics) (name_of (Gfx op)) s
operate (Page Quit) s = Ends Done
operate (Page Showpage) s = Shows (page_of s.graphics) (shown s)
operate (Space op) s = failed Undefined (name_of (Space op)) s
operate (Image op) s = after_image (image_row op s.operands s.store s.graphics) (name_of (Image op)) s
operate (Font op) s = failed Undefined (name_of (Font op)) s

-- a procedure found by a name runs, where fewer than 250 levels are open, else execstackoverflow; the command is that
-- name
abbrev pub call : List ℕ → Level → BodyValue → StepOutcome
call name level s =
    if nat_lt (length s.levels) 250 then Goes (record s { levels = level ∷ s.levels })
    else failed ExecStackOverflow name s

-- what a name's value does: a procedure is called, an operator does its row, an executable name counts and is executed
-- in its turn, all else is pushed; without a value it is undefined by that name
unfoldable pub execute_value : List ℕ → Option Obj → BodyValue → StepOutcome
execute_value name (Some (Array p true)) s = call name (Procedure p) s
execute_value name (Some (Operator op)) s = operate op s
execute_value name (Some (Name value true)) s = counted s (λ t. Goes (record t { at_once = Some (Name value true) }))
execute_value name (Some o) s = pushes (codes "push") o s
execute_value name None s = failed Undefined name s

-- what an object does: an executable name is looked up, an operator does its row, and all else is pushed, a procedure
-- too, else stackoverflow in `push`
unfoldable pub execute : Obj → BodyValue → StepOutcome
execute (Name name true) s = execute_value name (find_key s.store s.dicts (Named name)) s
execute (Operator op) s = operate op s
execute o s = pushes (codes "push") o s

-- what a turn of a loop pushes: all of it, or nothing where there isn't room for all
abbrev pub turned : FlowOp → Pushes → BodyValue → StepOutcome
turned op pushes s =
    if nat_le (length s.operands + number_of_pushes pushes) 500
    then Goes (record s { operands = with_pushes pushes s.operands })
    else failed StackOverflow (flow_name_of op) s
