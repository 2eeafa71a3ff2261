-- What is executed leaves fewer steps, within the limits.
use Rattle.std.specs.Prelude.{nat_lt, nat_le, codes}
use Rattle.std.proofs.lemmas.Bool.{ltb-true, leb-true}
use Rattle.std.proofs.Common.{◌≡◌, ℕ, ◌+◌, true, List, ◌∷◌, length, Option, Some, None, arith}
use Rattle.press_fault.specs.declared.names.PsName.TheVariants.{StackOverflow, Undefined, ExecStackOverflow}
use Rattle.ps_store.specs.declared.obj.Obj.{Obj}
use Rattle.ps_store.specs.declared.obj.Obj.TheVariants.{Bool as Truth, Name, Array, Oper as Operator}
use Rattle.ps_store.specs.declared.oper.Oper.{Oper}
use Rattle.ps_store.specs.declared.oper.Oper.TheVariants.{Stack, Data, Flow, Gfx, Page, Space, Image, Font}
use Rattle.ps_store.specs.declared.oper.FlowOp.{FlowOp}
use Rattle.ps_store.specs.declared.oper.FlowOp.TheVariants as OnFlow
use Rattle.ps_store.specs.declared.oper.PageOp.TheVariants.{Quit, Showpage}
use Rattle.ps_store.specs.declared.key.Key.TheVariants.{Named}
use Rattle.ps_store.specs.Operators.{name_of, flow_name_of}
use Rattle.ps_store.specs.Store.{StoreValue}
use Rattle.ps_store.specs.Desk.{OperandsAndStore}
use Rattle.ps_store.specs.Dicts.{find_key}
use Rattle.ps_store.specs.Outcome.{Outcome, Goes as GoesOn, Refuses}
use Rattle.ps_stack_ops.specs.Rows.{stack_row}
use Rattle.ps_data_ops.specs.Rows.{DataState, data_row}
use Rattle.ps_gfx_ops.specs.Scene.{GraphicsScene}
use Rattle.ps_gfx_ops.specs.Rows.{gfx_row}
use Rattle.ps_image_ops.specs.Rows.{image_row}
use Rattle.ps_flow.specs.declared.level.Level.{Level}
use Rattle.ps_flow.specs.declared.level.Level.TheVariants.{Procedure}
use Rattle.ps_flow.specs.declared.pushes.Pushes.{Pushes}
use Rattle.ps_flow.specs.declared.pushes.Pushes.TheVariants.{Nothing, One, Two}
use Rattle.ps_flow.specs.Pushes.{with_pushes, number_of_pushes}
use Rattle.ps_flow.specs.Course.{OperandsAndLevels}
use Rattle.ps_flow.specs.Rows.{flow_row}
use Rattle.ps_machine.specs.State.{BodyValue}
use Rattle.ps_machine.specs.State.{cut_back_to}
use Rattle.ps_machine.specs.Errors.{Goes, failed}
use Rattle.ps_machine.specs.Steps.{after_stack, work_of, after_data, after_gfx, after_flow, after_stop, operate_flow}
use Rattle.ps_machine.specs.Steps.{operate, call, execute_value, execute, turned}
use Rattle.ps_laws.proofs.Weight.{Lowers, Idle, Ready, idle_zero, idle, free}
use Rattle.ps_laws.proofs.Operands.{by_test}
use Rattle.ps_laws.proofs.StackRows.{FewOfDesk, stack_few}
use Rattle.ps_laws.proofs.DataRows.{DataFits, data_fits}
use Rattle.ps_laws.proofs.FlowRows.{AllShrinks, StopFits, flow_shrinks, stop_fits}
use Rattle.ps_laws.proofs.Failing.{lowers_failed, lowers_pushes, lowers_counted}
use Rattle.ps_laws.proofs.ImageSteps.{lowers_image}
use Rattle.ps_laws.proofs.GfxRows.{FewOfScene, gfx_few}

lowers_stack : (n : ℕ) (outcome : Outcome OperandsAndStore) (command : List ℕ) (s : BodyValue) → Idle n s →
    FewOfDesk outcome → Lowers n (after_stack outcome command s)
lowers_stack n (GoesOn desk) command s h f = let w = idle_zero s.at_once (length desk.operands) h.1 in
    ((f, h.0.1, h.0.2, h.0.3), omega arith)
lowers_stack n (Refuses name) command s h f = lowers_failed n name command s h

lowers_data : (n : ℕ) (outcome : Outcome DataState) (command : List ℕ) (s : BodyValue) → Idle n s →
    DataFits (length s.text.rest) outcome → Lowers n (after_data outcome command s)
lowers_data n (GoesOn work) command s h f = let w = idle_zero s.at_once (length work.operands) h.1 in
    ((f.0, h.0.1, f.1, f.2), omega arith)
lowers_data n (Refuses name) command s h f = lowers_failed n name command s h

lowers_gfx : (n : ℕ) (outcome : Outcome GraphicsScene) (command : List ℕ) (s : BodyValue) → Idle n s →
    FewOfScene outcome → Lowers n (after_gfx outcome command s)
lowers_gfx n (GoesOn scene) command s h f = let w = idle_zero s.at_once (length scene.operands) h.1 in
    ((f, h.0.1, h.0.2, h.0.3), omega arith)
lowers_gfx n (Refuses name) command s h f = lowers_failed n name command s h

lowers_flow : (n : ℕ) (outcome : Outcome (OperandsAndLevels × StoreValue)) (command : List ℕ) (s : BodyValue) →
    Ready n s → AllShrinks (length s.operands) (length s.levels) outcome → Lowers n (after_flow outcome command s)
lowers_flow n (GoesOn course) command s h f = ((f.0, f.1, h.0.2, h.0.3), omega arith)
lowers_flow n (Refuses name) command s h f = lowers_failed n name command s (idle n s h)

lowers_stop : (n : ℕ) (outcome : Outcome (OperandsAndLevels × StoreValue)) (command : List ℕ) (s : BodyValue) →
    Idle n s → StopFits (length s.levels) outcome → Lowers n (after_stop outcome command s)
lowers_stop n (GoesOn course) command s h f =
    lowers_pushes n (codes "stopped") (Truth true)
    (record (cut_back_to course.0.levels s) { operands = course.0.operands; store = course.1 })
    ((f.0, omega arith, h.0.2, h.0.3), h.1, omega arith)
lowers_stop n (Refuses name) command s h f = lowers_failed n name command s h

lowers_operate_flow : (n : ℕ) (op : FlowOp) (s : BodyValue) → Ready n s → Lowers n (operate_flow op s)
lowers_operate_flow n OnFlow.Stop s h = lowers_stop n (flow_row OnFlow.Stop s.operands s.levels s.store s.dicts)
    (codes "stop") s (idle n s h) (stop_fits s.operands s.levels s.store s.dicts h.0.0)
lowers_operate_flow n op s h = lowers_flow n (flow_row op s.operands s.levels s.store s.dicts) (flow_name_of op) s h
    (flow_shrinks op s.operands s.levels s.store s.dicts h.0.0 h.0.1)

lowers_operate : (n : ℕ) (op : Oper) (s : BodyValue) → Ready n s → Lowers n (operate op s)
unfolding operate
lowers_operate n (Stack op) s h = lowers_stack n (stack_row op s.operands s.store) (name_of (Stack op)) s (idle n s h)
    (stack_few op s.operands s.store h.0.0)
lowers_operate n (Data op) s h = lowers_data n (data_row op (work_of s)) (name_of (Data op)) s (idle n s h)
    (data_fits op (work_of s) (h.0.0, h.0.2, h.0.3, omega arith))
lowers_operate n (Flow op) s h = lowers_operate_flow n op s h
lowers_operate n (Gfx op) s h = lowers_gfx n (gfx_row op s.operands s.store s.graphics) (name_of (Gfx op)) s
    (idle n s h) (gfx_few op s.operands s.store s.graphics h.0.0)
lowers_operate n (Page Quit) s h = tt
lowers_operate n (Page Showpage) s h = let w = idle_zero s.at_once (length s.operands) h.1 in (h.0, omega arith)
lowers_operate n (Space op) s h = lowers_failed n Undefined (name_of (Space op)) s (idle n s h)
lowers_operate n (Image op) s h = lowers_image n (image_row op s.operands s.store s.graphics) (name_of (Image op)) s
    (idle n s h)
lowers_operate n (Font op) s h = lowers_failed n Undefined (name_of (Font op)) s (idle n s h)

lowers_call : (n : ℕ) (name : List ℕ) (level : Level) (s : BodyValue) → Ready n s → Lowers n (call name level s)
lowers_call n name level s h = by_test (Lowers n) (nat_lt (length s.levels) 250)
    (Goes (record s { levels = level ∷ s.levels })) (failed ExecStackOverflow name s)
    (λ e. let l = ltb-true (length s.levels) 250 e in
    let w = idle_zero s.at_once (length s.operands) h.1 in
    ((h.0.0, omega arith, h.0.2, h.0.3), omega arith))
    (λ e. lowers_failed n ExecStackOverflow name s (idle n s h))

lowers_value : (n : ℕ) (name : List ℕ) (value : Option Obj) (s : BodyValue) → Ready n s →
    Lowers n (execute_value name value s)
unfolding execute_value
lowers_value n name (Some (Array p true)) s h = lowers_call n name (Procedure p) s h
lowers_value n name (Some (Operator op)) s h = lowers_operate n op s h
lowers_value n name (Some (Name value true)) s h =
    lowers_counted n s (λ t. Goes (record t { at_once = Some (Name value true) })) (free n s h)
    (λ t r room. (r.0, omega arith))
lowers_value n name (Some o) s h = lowers_pushes n (codes "push") o s (idle n s h)
lowers_value n name None s h = lowers_failed n Undefined name s (idle n s h)

-- an object that is executed leaves fewer steps than were set aside for one
pub lowers_execute : (n : ℕ) (o : Obj) (s : BodyValue) → Ready n s → Lowers n (execute o s)
unfolding execute
lowers_execute n (Name name true) s h = lowers_value n name (find_key s.store s.dicts (Named name)) s h
lowers_execute n (Operator op) s h = lowers_operate n op s h
lowers_execute n o s h = lowers_pushes n (codes "push") o s (idle n s h)

length_pushed : (items : Pushes) (operands : List Obj) →
    length (with_pushes items operands) ≡ length operands + number_of_pushes items
length_pushed Nothing operands = omega arith
length_pushed (One o) operands = omega arith
length_pushed (Two key value) operands = omega arith

-- a turn of a loop leaves fewer steps, where nothing waits
pub lowers_turned : (n : ℕ) (op : FlowOp) (items : Pushes) (s : BodyValue) → Idle n s → Lowers n (turned op items s)
lowers_turned n op items s h = by_test (Lowers n) (nat_le (length s.operands + number_of_pushes items) 500)
    (Goes (record s { operands = with_pushes items s.operands })) (failed StackOverflow (flow_name_of op) s)
    (λ e. let l = leb-true (length s.operands + number_of_pushes items) 500 e in
    let p = length_pushed items s.operands in
    let w = idle_zero s.at_once (length (with_pushes items s.operands)) h.1 in
    ((omega arith, h.0.1, h.0.2, h.0.3), omega arith))
    (λ e. lowers_failed n StackOverflow (flow_name_of op) s h)
