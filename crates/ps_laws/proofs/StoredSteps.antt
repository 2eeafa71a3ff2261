-- What is executed leaves what is of the store.
use Rattle.std.specs.Prelude.{nat_lt, nat_le, codes}
use Rattle.std.proofs.Common.{ℕ, ◌+◌, true, List, ◌∷◌, length, Option, Some, None, arith}
use Rattle.press_fault.specs.declared.names.PsName.TheVariants.{StackOverflow, Undefined, ExecStackOverflow}
use Rattle.ps_store.specs.declared.obj.Obj.{Obj}
use Rattle.ps_store.specs.declared.obj.Obj.TheVariants.{Bool as Truth, Name, Array, Oper as Operator}
use Rattle.ps_store.specs.declared.oper.Oper.{Oper}
use Rattle.ps_store.specs.declared.oper.Oper.TheVariants.{Stack, Data, Flow, Gfx, Page, Space, Image, Font}
use Rattle.ps_store.specs.declared.oper.FlowOp.{FlowOp}
use Rattle.ps_store.specs.declared.oper.FlowOp.TheVariants as OnFlow
use Rattle.ps_store.specs.declared.oper.PageOp.TheVariants.{Quit, Showpage}
use Rattle.ps_store.specs.declared.key.Key.TheVariants.{Named}
use Rattle.ps_store.specs.Operators.{name_of, flow_name_of}
use Rattle.ps_store.specs.Store.{StoreValue}
use Rattle.ps_store.specs.Desk.{OperandsAndStore}
use Rattle.ps_store.specs.Dicts.{find_key}
use Rattle.ps_store.specs.Outcome.{Outcome, Goes as GoesOn, Refuses}
use Rattle.ps_stack_ops.specs.Rows.{stack_row}
use Rattle.ps_data_ops.specs.Rows.{DataState, data_row}
use Rattle.ps_gfx_ops.specs.Scene.{GraphicsScene}
use Rattle.ps_gfx_ops.specs.Rows.{gfx_row}
use Rattle.ps_image_ops.specs.Rows.{image_row}
use Rattle.ps_flow.specs.declared.level.Level.{Level}
use Rattle.ps_flow.specs.declared.level.Level.TheVariants.{Procedure}
use Rattle.ps_flow.specs.declared.pushes.Pushes.{Pushes}
use Rattle.ps_flow.specs.declared.pushes.Pushes.TheVariants.{Nothing, One, Two}
use Rattle.ps_flow.specs.Pushes.{with_pushes, number_of_pushes}
use Rattle.ps_flow.specs.Course.{OperandsAndLevels}
use Rattle.ps_flow.specs.Rows.{flow_row}
use Rattle.ps_machine.specs.State.{BodyValue}
use Rattle.ps_machine.specs.State.{cut_back_to}
use Rattle.ps_machine.specs.Errors.{Goes, failed}
use Rattle.ps_machine.specs.Steps.{after_stack, work_of, after_data, after_gfx, after_flow, after_stop, operate_flow}
use Rattle.ps_machine.specs.Steps.{operate, call, execute_value, execute, turned}
use Rattle.ps_laws.specs.Stored.{Each, IsOf, IsLevelOf}
use Rattle.ps_laws.proofs.Operands.{by_test}
use Rattle.ps_laws.proofs.Each.{OfSome}
use Rattle.ps_laws.proofs.StoredStack.{DeskOf, stack_of}
use Rattle.ps_laws.proofs.StoredData.{DataOf, find_is, data_of}
use Rattle.ps_laws.proofs.StoredFlow.{FlowOf, flow_of}
use Rattle.ps_laws.proofs.StoredGfx.{SceneOf, gfx_of}
use Rattle.ps_laws.proofs.StoredFailing.{Stored, Keeps, stored_grown, of_frames, keeps_failed, keeps_pushes}
use Rattle.ps_laws.proofs.StoredFailing.{keeps_counted}
use Rattle.ps_laws.proofs.StoredImages.{image_of, keeps_image}

keeps_stack : (outcome : Outcome OperandsAndStore) (command : List ℕ) (s : BodyValue) → Stored s →
    DeskOf (length s.store.made) outcome → Keeps (after_stack outcome command s)
keeps_stack (GoesOn desk) command s h k = let g = stored_grown s desk.store h k.0 in (g.0, k.1, g.2, g.3, g.4, g.5, g.6)
keeps_stack (Refuses name) command s h k = keeps_failed name command s h

keeps_data : (outcome : Outcome DataState) (command : List ℕ) (s : BodyValue) → Stored s →
    DataOf (length s.store.made) outcome → Keeps (after_data outcome command s)
keeps_data (GoesOn work) command s h k = let g = stored_grown s work.store h k.0 in (g.0, k.1, k.2, g.3, g.4, g.5, g.6)
keeps_data (Refuses name) command s h k = keeps_failed name command s h

keeps_gfx : (outcome : Outcome GraphicsScene) (command : List ℕ) (s : BodyValue) → Stored s →
    SceneOf (length s.store.made) outcome → Keeps (after_gfx outcome command s)
keeps_gfx (GoesOn scene) command s h k = let g = stored_grown s scene.store h k.0 in (g.0, k.1, g.2, g.3, g.4, g.5, g.6)
keeps_gfx (Refuses name) command s h k = keeps_failed name command s h

keeps_flow : (outcome : Outcome (OperandsAndLevels × StoreValue)) (command : List ℕ) (s : BodyValue) → Stored s →
    FlowOf (length s.store.made) outcome → Keeps (after_flow outcome command s)
keeps_flow (GoesOn course) command s h k = let g = stored_grown s course.1 h k.0 in
    (g.0, k.1.0, g.2, k.1.1, k.1.2, g.5, g.6)
keeps_flow (Refuses name) command s h k = keeps_failed name command s h

keeps_stop : (outcome : Outcome (OperandsAndLevels × StoreValue)) (command : List ℕ) (s : BodyValue) → Stored s →
    FlowOf (length s.store.made) outcome → Keeps (after_stop outcome command s)
keeps_stop (GoesOn course) command s h k = let g = stored_grown s course.1 h k.0 in
    keeps_pushes (codes "stopped") (Truth true)
    (record (cut_back_to course.0.levels s) { operands = course.0.operands; store = course.1 }) tt
    (g.0, k.1.0, g.2, k.1.1, g.4, g.5, of_frames (length course.1.made) course.0.levels s.frames g.6)
keeps_stop (Refuses name) command s h k = keeps_failed name command s h

keeps_operate_flow : (op : FlowOp) (s : BodyValue) → Stored s → Keeps (operate_flow op s)
keeps_operate_flow OnFlow.Stop s h = keeps_stop (flow_row OnFlow.Stop s.operands s.levels s.store s.dicts)
    (codes "stop") s h (flow_of OnFlow.Stop s.operands s.levels s.store s.dicts h.0 h.1 h.3)
keeps_operate_flow op s h = keeps_flow (flow_row op s.operands s.levels s.store s.dicts) (flow_name_of op) s h
    (flow_of op s.operands s.levels s.store s.dicts h.0 h.1 h.3)

keeps_operate : (op : Oper) (s : BodyValue) → Stored s → Keeps (operate op s)
unfolding operate
keeps_operate (Stack op) s h = keeps_stack (stack_row op s.operands s.store) (name_of (Stack op)) s h
    (stack_of op s.operands s.store h.0 h.1)
keeps_operate (Data op) s h = keeps_data (data_row op (work_of s)) (name_of (Data op)) s h
    (data_of op (work_of s) ((h.0, omega arith), h.1, h.2))
keeps_operate (Flow op) s h = keeps_operate_flow op s h
keeps_operate (Gfx op) s h = keeps_gfx (gfx_row op s.operands s.store s.graphics) (name_of (Gfx op)) s h
    (gfx_of op s.operands s.store s.graphics h.0 h.1)
keeps_operate (Page Quit) s h = tt
keeps_operate (Page Showpage) s h = h
keeps_operate (Space op) s h = keeps_failed Undefined (name_of (Space op)) s h
keeps_operate (Image op) s h = keeps_image (image_row op s.operands s.store s.graphics) (name_of (Image op)) s
    (image_of op s.operands s.store s.graphics h.0 h.1) h
keeps_operate (Font op) s h = keeps_failed Undefined (name_of (Font op)) s h

keeps_call : (name : List ℕ) (level : Level) (s : BodyValue) → IsLevelOf (length s.store.made) level → Stored s →
    Keeps (call name level s)
keeps_call name level s f h = by_test Keeps (nat_lt (length s.levels) 250)
    (Goes (record s { levels = level ∷ s.levels })) (failed ExecStackOverflow name s)
    (λ e. (h.0, h.1, h.2, (f, h.3), h.4, h.5, h.6)) (λ e. keeps_failed ExecStackOverflow name s h)

keeps_value : (name : List ℕ) (value : Option Obj) (s : BodyValue) → OfSome (IsOf (length s.store.made)) value →
    Stored s → Keeps (execute_value name value s)
unfolding execute_value
keeps_value name (Some (Array p true)) s f h = keeps_call name (Procedure p) s f h
keeps_value name (Some (Operator op)) s f h = keeps_operate op s h
keeps_value name (Some (Name value true)) s f h =
    keeps_counted s (λ t. Goes (record t { at_once = Some (Name value true) })) h
    (λ t k e. (k.0, k.1, k.2, k.3, tt, k.5, k.6))
keeps_value name (Some o) s f h = keeps_pushes (codes "push") o s f h
keeps_value name None s f h = keeps_failed Undefined name s h

-- an object of the store that is executed leaves what is of the store
pub keeps_execute : (o : Obj) (s : BodyValue) → IsOf (length s.store.made) o → Stored s → Keeps (execute o s)
unfolding execute
keeps_execute (Name name true) s f h = keeps_value name (find_key s.store s.dicts (Named name)) s
    (find_is s.store s.dicts (Named name) h.0) h
keeps_execute (Operator op) s f h = keeps_operate op s h
keeps_execute o s f h = keeps_pushes (codes "push") o s f h

-- what a turn pushes is of the store
abbrev pub PushesOf : ℕ → Pushes → Type 0
PushesOf m Nothing = Unit {0}
PushesOf m (One o) = IsOf m o
PushesOf m (Two key value) = IsOf m key × IsOf m value

with_of : (m : ℕ) (items : Pushes) (operands : List Obj) → PushesOf m items → Each (IsOf m) operands →
    Each (IsOf m) (with_pushes items operands)
with_of m Nothing operands f h = h
with_of m (One o) operands f h = (f, h)
with_of m (Two key value) operands f h = (f.1, (f.0, h))

-- a turn of a loop leaves what is of the store
pub keeps_turned : (op : FlowOp) (items : Pushes) (s : BodyValue) → PushesOf (length s.store.made) items → Stored s →
    Keeps (turned op items s)
keeps_turned op items s f h = by_test Keeps (nat_le (length s.operands + number_of_pushes items) 500)
    (Goes (record s { operands = with_pushes items s.operands })) (failed StackOverflow (flow_name_of op) s)
    (λ e. (h.0, with_of (length s.store.made) items s.operands f h.1, h.2, h.3, h.4, h.5, h.6))
    (λ e. keeps_failed StackOverflow (flow_name_of op) s h)
