-- What is executed leaves as many frames as guarded procedures.
use Rattle.std.specs.Prelude.{nat_lt, nat_le, ◌==◌, ◌||◌, codes}
use Rattle.std.proofs.lemmas.List.{length-drop}
use Rattle.std.proofs.Common.{◌≡◌, ◌∙◌, ℕ, suc, ◌+◌, ◌-◌, ◌≤◌, true, List, [], ◌∷◌, length, drop, Option, Some, None}
use Rattle.std.proofs.Common.{sym, arith}
use Rattle.press_fault.specs.declared.names.PsName.{PsName}
use Rattle.press_fault.specs.declared.names.PsName.TheVariants.{StackOverflow, TypeCheck, Undefined, LimitCheck}
use Rattle.press_fault.specs.declared.names.PsName.TheVariants.{ExecStackOverflow}
use Rattle.ps_store.specs.declared.obj.Obj.{Obj}
use Rattle.ps_store.specs.declared.obj.Obj.TheVariants.{Bool as Truth, Name, Text, Array, Oper as Operator}
use Rattle.ps_store.specs.declared.oper.Oper.{Oper}
use Rattle.ps_store.specs.declared.oper.Oper.TheVariants.{Stack, Data, Flow, Gfx, Page, Space, Image, Font}
use Rattle.ps_store.specs.declared.oper.FlowOp.{FlowOp}
use Rattle.ps_store.specs.declared.oper.FlowOp.TheVariants as OnFlow
use Rattle.ps_store.specs.declared.oper.PageOp.TheVariants.{Quit, Showpage}
use Rattle.ps_store.specs.declared.key.Key.TheVariants.{Named}
use Rattle.ps_store.specs.Operators.{name_of, flow_name_of}
use Rattle.ps_store.specs.Parts.{PartValue}
use Rattle.ps_store.specs.Store.{StoreValue, bytes_of}
use Rattle.ps_store.specs.Desk.{OperandsAndStore}
use Rattle.ps_store.specs.Dicts.{find_key}
use Rattle.ps_store.specs.Outcome.{Outcome, Goes as GoesOn, Refuses}
use Rattle.ps_stack_ops.specs.Rows.{stack_row}
use Rattle.ps_data_ops.specs.Rows.{DataState, data_row}
use Rattle.gfx_state.specs.Graphics.{GfxValue}
use Rattle.ps_gfx_ops.specs.Scene.{GraphicsScene}
use Rattle.ps_gfx_ops.specs.Rows.{gfx_row}
use Rattle.ps_image_ops.specs.declared.parameters.DataSource.{DataSource}
use Rattle.ps_image_ops.specs.declared.parameters.DataSource.TheVariants.{Bytes, Program, Procedure as Called}
use Rattle.ps_image_ops.specs.declared.reading.Begun.{Begun}
use Rattle.ps_image_ops.specs.Reading.{ReadingValue, lacks, read_on, read_over, placed}
use Rattle.ps_image_ops.specs.Rows.{image_row}
use Rattle.ps_flow.specs.declared.level.Level.{Level}
use Rattle.ps_flow.specs.declared.level.Level.TheVariants.{Procedure}
use Rattle.ps_flow.specs.declared.pushes.Pushes.{Pushes}
use Rattle.ps_flow.specs.Pushes.{with_pushes, number_of_pushes}
use Rattle.ps_flow.specs.Levels.{is_stopped, guarded_in}
use Rattle.ps_flow.specs.Course.{OperandsAndLevels}
use Rattle.ps_flow.specs.Rows.{flow_row}
use Rattle.ps_machine.specs.declared.frames.Frame.{Frame}
use Rattle.ps_machine.specs.declared.frames.Frame.TheVariants.{Image as ReadsOn}
use Rattle.ps_machine.specs.State.{BodyValue, frames_of, cut_back_to}
use Rattle.ps_machine.specs.Errors.{StepOutcome, Goes, Caught, Lands, Falls, caught, after_caught, failed, pushes}
use Rattle.ps_machine.specs.Errors.{counted}
use Rattle.ps_machine.specs.Images.{after_placed, finished, called, behind_bytes, from_source, after_image}
use Rattle.ps_machine.specs.Images.{reads_on, after_procedure, returned}
use Rattle.ps_machine.specs.Steps.{after_stack, work_of, after_data, after_gfx, after_flow, after_stop, operate_flow}
use Rattle.ps_machine.specs.Steps.{operate, call, execute_value, execute, turned}
use Rattle.ps_laws.specs.Frames.{IsFramed, KeepsFrames}
use Rattle.ps_laws.proofs.Operands.{by_test}
use Rattle.ps_laws.proofs.Calling.{with_call}
use Rattle.ps_laws.proofs.Guards.{guarded_more, fewer_below, FlowHas, IsNoStop, flow_has, StopLeaves, stop_leaves}

-- with the levels cut back, the frames that are left are those of the levels that are left
cut_framed : (levels : List Level) (frames : List Frame) → guarded_in levels ≤ length frames →
    length (frames_of levels frames) ≡ guarded_in levels
cut_framed levels frames le =
    let e : length (frames_of levels frames) ≡ length frames - (length frames - guarded_in levels) =
    length-drop (length frames - guarded_in levels) frames in omega arith

-- an error leaves no more guarded procedures
abbrev CatchLeaves : ℕ → Caught → Type 0
CatchLeaves n (Lands operands levels) = guarded_in levels ≤ n
CatchLeaves n (Falls name command) = Unit {0}

catch_more : (m n : ℕ) (c : Caught) → m ≤ n → CatchLeaves m c → CatchLeaves n c
catch_more m n (Lands operands levels) le h = omega arith
catch_more m n (Falls name command) le h = tt

catch_leaves : (levels : List Level) (name : PsName) (command : List ℕ) (operands : List Obj) →
    CatchLeaves (guarded_in levels) (caught name command levels operands)
catch_leaves [] name command operands = tt
catch_leaves (level ∷ below) name command operands =
    let le = fewer_below level below in
    by_test (CatchLeaves (guarded_in (level ∷ below))) (is_stopped level) _ (caught name command below operands)
    (λ e. by_test (CatchLeaves (guarded_in (level ∷ below))) (nat_lt (length operands) 500)
    (Lands (Truth true ∷ operands) below) (caught StackOverflow (codes "stopped") below operands) (λ f. le)
    (λ f. catch_more (guarded_in below) (guarded_in (level ∷ below))
    (caught StackOverflow (codes "stopped") below operands) le
    (catch_leaves below StackOverflow (codes "stopped") operands)))
    (λ e. catch_more (guarded_in below) (guarded_in (level ∷ below)) (caught name command below operands) le
    (catch_leaves below name command operands))

framed_caught : (s : BodyValue) (c : Caught) → IsFramed s → CatchLeaves (guarded_in s.levels) c →
    KeepsFrames (after_caught s c)
framed_caught s (Lands operands levels) h f = cut_framed levels s.frames (omega arith)
framed_caught s (Falls name command) h f = tt

-- an error takes the frames of the levels away that it takes away
pub framed_failed : (name : PsName) (command : List ℕ) (s : BodyValue) → IsFramed s →
    KeepsFrames (failed name command s)
framed_failed name command s h = framed_caught s (caught name command s.levels s.operands) h
    (catch_leaves s.levels name command s.operands)

-- a push leaves levels and frames
pub framed_pushes : (command : List ℕ) (o : Obj) (s : BodyValue) → IsFramed s → KeepsFrames (pushes command o s)
framed_pushes command o s h = by_test KeepsFrames (nat_lt (length s.operands) 500)
    (Goes (record s { operands = o ∷ s.operands })) (failed StackOverflow command s)
    (λ e. h) (λ e. framed_failed StackOverflow command s h)

-- what is counted and then done leaves as many frames as it does
pub framed_counted : (s : BodyValue) (go : BodyValue → StepOutcome) → IsFramed s →
    ((t : BodyValue) → IsFramed t → KeepsFrames (go t)) → KeepsFrames (counted s go)
framed_counted s go h f = by_test KeepsFrames (nat_lt s.count 100000000) (go (record s { count = s.count + 1 })) _
    (λ e. f (record s { count = s.count + 1 }) h) (λ e. tt)

framed_stack : (outcome : Outcome OperandsAndStore) (command : List ℕ) (s : BodyValue) → IsFramed s →
    KeepsFrames (after_stack outcome command s)
framed_stack (GoesOn desk) command s h = h
framed_stack (Refuses name) command s h = framed_failed name command s h

framed_data : (outcome : Outcome DataState) (command : List ℕ) (s : BodyValue) → IsFramed s →
    KeepsFrames (after_data outcome command s)
framed_data (GoesOn work) command s h = h
framed_data (Refuses name) command s h = framed_failed name command s h

framed_gfx : (outcome : Outcome GraphicsScene) (command : List ℕ) (s : BodyValue) → IsFramed s →
    KeepsFrames (after_gfx outcome command s)
framed_gfx (GoesOn scene) command s h = h
framed_gfx (Refuses name) command s h = framed_failed name command s h

framed_flow : (outcome : Outcome (OperandsAndLevels × StoreValue)) (command : List ℕ) (s : BodyValue) → IsFramed s →
    FlowHas (guarded_in s.levels) outcome → KeepsFrames (after_flow outcome command s)
framed_flow (GoesOn course) command s h k = h ∙ sym k
framed_flow (Refuses name) command s h k = framed_failed name command s h

framed_stop : (outcome : Outcome (OperandsAndLevels × StoreValue)) (command : List ℕ) (s : BodyValue) → IsFramed s →
    StopLeaves (guarded_in s.levels) outcome → KeepsFrames (after_stop outcome command s)
framed_stop (GoesOn course) command s h k = framed_pushes (codes "stopped") (Truth true)
    (record (cut_back_to course.0.levels s) { operands = course.0.operands; store = course.1 })
    (cut_framed course.0.levels s.frames (omega arith))
framed_stop (Refuses name) command s h k = framed_failed name command s h

framed_but_stop : (op : FlowOp) (s : BodyValue) → IsNoStop op → IsFramed s →
    KeepsFrames (after_flow (flow_row op s.operands s.levels s.store s.dicts) (flow_name_of op) s)
framed_but_stop op s k h = framed_flow (flow_row op s.operands s.levels s.store s.dicts) (flow_name_of op) s h
    (flow_has op s.operands s.levels s.store s.dicts k)

framed_operate_flow : (op : FlowOp) (s : BodyValue) → IsFramed s → KeepsFrames (operate_flow op s)
framed_operate_flow OnFlow.Stop s h = framed_stop (flow_row OnFlow.Stop s.operands s.levels s.store s.dicts)
    (codes "stop") s h (stop_leaves s.operands s.levels s.store s.dicts)
framed_operate_flow op s h = framed_but_stop op s tt h

framed_placed : (g : Option GfxValue) (r : ReadingValue) (operands : List Obj) (s : BodyValue) → IsFramed s →
    KeepsFrames (after_placed g r operands s)
framed_placed (Some g) r operands s h = h
framed_placed None r operands s h = framed_failed LimitCheck (name_of (Image r.op)) s h

-- a call makes a frame and a guarded procedure
framed_called : (r : ReadingValue) (p : PartValue) (operands : List Obj) (s : BodyValue) → IsFramed s →
    KeepsFrames (called r p operands s)
framed_called r p operands s h = by_test KeepsFrames (nat_lt (length s.levels) 250)
    (counted s (λ t. Goes (with_call r p operands t))) (failed ExecStackOverflow (name_of (Image r.op)) s)
    (λ e. framed_counted s (λ t. Goes (with_call r p operands t)) h
    (λ t k. let one = guarded_more p t.levels in omega (arith, k, one)))
    (λ e. framed_failed ExecStackOverflow (name_of (Image r.op)) s h)

framed_source : (source : DataSource) (r : ReadingValue) (operands : List Obj) (s : BodyValue) → IsFramed s →
    KeepsFrames (from_source source r operands s)
framed_source (Bytes p) r operands s h =
    framed_placed (placed (read_over r (bytes_of s.store p)) s.graphics) (read_over r (bytes_of s.store p)) operands s h
framed_source Program r operands s h =
    framed_placed (placed (read_on r s.text.rest) s.graphics) (read_on r s.text.rest) operands
    (behind_bytes (lacks r) s) h
framed_source (Called p) r operands s h = framed_called r p operands s h

framed_image : (outcome : Outcome Begun) (command : List ℕ) (s : BodyValue) → IsFramed s →
    KeepsFrames (after_image outcome command s)
framed_image (GoesOn begun) command s h =
    let operands = drop begun.operands s.operands in
    by_test KeepsFrames (lacks begun.reading == 0) (finished begun.reading operands s)
    (from_source begun.source begun.reading operands s)
    (λ e. framed_placed (placed begun.reading s.graphics) begun.reading operands s h)
    (λ e. framed_source begun.source begun.reading operands s h)
framed_image (Refuses name) command s h = framed_failed name command s h

framed_reads : (r : ReadingValue) (p : PartValue) (bytes : List ℕ) (operands : List Obj) (s : BodyValue) →
    IsFramed s → KeepsFrames (reads_on r p bytes operands s)
framed_reads r p bytes operands s h =
    by_test KeepsFrames ((length bytes == 0) || (lacks (read_on r bytes) == 0))
    (finished (read_on r bytes) operands s) (called (read_on r bytes) p operands s)
    (λ e. framed_placed (placed (read_on r bytes) s.graphics) (read_on r bytes) operands s h)
    (λ e. framed_called (read_on r bytes) p operands s h)

framed_procedure : (r : ReadingValue) (p : PartValue) (operands : List Obj) (s : BodyValue) → IsFramed s →
    KeepsFrames (after_procedure r p operands s)
framed_procedure r p (Text q ∷ rest) s h = framed_reads r p (bytes_of s.store q) rest s h
framed_procedure r p operands s h = framed_failed TypeCheck (name_of (Image r.op)) s h

-- where a guarded procedure has gone, one frame goes with it
pub framed_returned : (frames : List Frame) (s : BodyValue) → suc (guarded_in s.levels) ≡ length frames →
    KeepsFrames (returned frames s)
unfolding returned
framed_returned [] s h = absurd (omega arith)
framed_returned (ReadsOn p r ∷ frames) s h =
    framed_procedure r p s.operands (record s { frames = frames }) (omega arith)

framed_operate : (op : Oper) (s : BodyValue) → IsFramed s → KeepsFrames (operate op s)
unfolding operate
framed_operate (Stack op) s h = framed_stack (stack_row op s.operands s.store) (name_of (Stack op)) s h
framed_operate (Data op) s h = framed_data (data_row op (work_of s)) (name_of (Data op)) s h
framed_operate (Flow op) s h = framed_operate_flow op s h
framed_operate (Gfx op) s h = framed_gfx (gfx_row op s.operands s.store s.graphics) (name_of (Gfx op)) s h
framed_operate (Page Quit) s h = tt
framed_operate (Page Showpage) s h = h
framed_operate (Space op) s h = framed_failed Undefined (name_of (Space op)) s h
framed_operate (Image op) s h = framed_image (image_row op s.operands s.store s.graphics) (name_of (Image op)) s h
framed_operate (Font op) s h = framed_failed Undefined (name_of (Font op)) s h

framed_call : (name : List ℕ) (p : PartValue) (s : BodyValue) → IsFramed s → KeepsFrames (call name (Procedure p) s)
framed_call name p s h = by_test KeepsFrames (nat_lt (length s.levels) 250)
    (Goes (record s { levels = Procedure p ∷ s.levels })) (failed ExecStackOverflow name s)
    (λ e. h) (λ e. framed_failed ExecStackOverflow name s h)

framed_value : (name : List ℕ) (value : Option Obj) (s : BodyValue) → IsFramed s →
    KeepsFrames (execute_value name value s)
unfolding execute_value
framed_value name (Some (Array p true)) s h = framed_call name p s h
framed_value name (Some (Operator op)) s h = framed_operate op s h
framed_value name (Some (Name value true)) s h =
    framed_counted s (λ t. Goes (record t { at_once = Some (Name value true) })) h (λ t k. k)
framed_value name (Some o) s h = framed_pushes (codes "push") o s h
framed_value name None s h = framed_failed Undefined name s h

-- an object that is executed leaves as many frames as guarded procedures
pub framed_execute : (o : Obj) (s : BodyValue) → IsFramed s → KeepsFrames (execute o s)
unfolding execute
framed_execute (Name name true) s h = framed_value name (find_key s.store s.dicts (Named name)) s h
framed_execute (Operator op) s h = framed_operate op s h
framed_execute o s h = framed_pushes (codes "push") o s h

-- a turn of a loop leaves levels and frames
pub framed_turned : (op : FlowOp) (items : Pushes) (s : BodyValue) → IsFramed s → KeepsFrames (turned op items s)
framed_turned op items s h = by_test KeepsFrames (nat_le (length s.operands + number_of_pushes items) 500)
    (Goes (record s { operands = with_pushes items s.operands })) (failed StackOverflow (flow_name_of op) s)
    (λ e. h) (λ e. framed_failed StackOverflow (flow_name_of op) s h)
