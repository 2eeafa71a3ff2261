-- Images that are read leave fewer steps, within the limits.
use Rattle.std.specs.Prelude.{nat_lt, ◌==◌, ◌||◌, codes}
use Rattle.std.proofs.lemmas.Bool.{ltb-true}
use Rattle.std.proofs.lemmas.List.{length-drop}
use Rattle.std.proofs.Common.{◌≡◌, ℕ, ◌+◌, ◌-◌, ◌≤◌, List, [], ◌∷◌, length, drop, Option, Some, None}
use Rattle.std.proofs.Common.{arith}
use Rattle.press_fault.specs.declared.names.PsName.TheVariants.{TypeCheck, LimitCheck, Timeout, ExecStackOverflow}
use Rattle.ps_store.specs.declared.obj.Obj.{Obj}
use Rattle.ps_store.specs.declared.obj.Obj.TheVariants.{Text}
use Rattle.ps_store.specs.declared.oper.Oper.TheVariants.{Image as OnImage}
use Rattle.ps_store.specs.Operators.{name_of}
use Rattle.ps_store.specs.Outcome.{Outcome, Goes as GoesOn, Refuses}
use Rattle.ps_store.specs.Parts.{PartValue}
use Rattle.ps_store.specs.Store.{bytes_of}
use Rattle.gfx_state.specs.Graphics.{GfxValue}
use Rattle.ps_image_ops.specs.declared.parameters.DataSource.{DataSource}
use Rattle.ps_image_ops.specs.declared.parameters.DataSource.TheVariants.{Bytes, Program, Procedure}
use Rattle.ps_image_ops.specs.declared.reading.Begun.{Begun}
use Rattle.ps_image_ops.specs.Reading.{ReadingValue, lacks, read_on, read_over, placed}
use Rattle.ps_machine.specs.declared.frames.Frame.{Frame}
use Rattle.ps_machine.specs.declared.frames.Frame.TheVariants.{Image}
use Rattle.ps_machine.specs.declared.turn.End.TheVariants.{Ps}
use Rattle.ps_machine.specs.State.{BodyValue}
use Rattle.ps_machine.specs.Errors.{Goes, Ends, failed, counted}
use Rattle.ps_machine.specs.Images.{after_placed, finished, called, behind_bytes, from_source, begins, after_image}
use Rattle.ps_machine.specs.Images.{reads_on, after_procedure, returned}
use Rattle.ps_laws.proofs.Weight.{Lowers, Idle, idle_zero}
use Rattle.ps_laws.proofs.Operands.{by_test}
use Rattle.ps_laws.proofs.Calling.{with_call}
use Rattle.ps_laws.proofs.Failing.{lowers_failed}

lowers_placed : (n : ℕ) (g : Option GfxValue) (r : ReadingValue) (operands : List Obj) (s : BodyValue) →
    length operands ≤ 500 → Idle n s → Lowers n (after_placed g r operands s)
lowers_placed n (Some g) r operands s few h = let w = idle_zero s.at_once (length operands) h.1 in
    ((few, h.0.1, h.0.2, h.0.3), omega arith)
lowers_placed n None r operands s few h = lowers_failed n LimitCheck (name_of (OnImage r.op)) s h

lowers_finished : (n : ℕ) (r : ReadingValue) (operands : List Obj) (s : BodyValue) → length operands ≤ 500 →
    Idle n s → Lowers n (finished r operands s)
lowers_finished n r operands s few h = lowers_placed n (placed r s.graphics) r operands s few h

-- a call counts, and an object more takes more steps than a level
lowers_called : (n : ℕ) (r : ReadingValue) (p : PartValue) (operands : List Obj) (s : BodyValue) →
    length operands ≤ 500 → Idle n s → Lowers n (called r p operands s)
lowers_called n r p operands s few h = by_test (Lowers n) (nat_lt (length s.levels) 250)
    (counted s (λ t. Goes (with_call r p operands t))) (failed ExecStackOverflow (name_of (OnImage r.op)) s)
    (λ e. by_test (Lowers n) (nat_lt s.count 100000000)
    (Goes (with_call r p operands (record s { count = s.count + 1 }))) (Ends (Ps Timeout (codes "run")))
    (λ f. let l = ltb-true (length s.levels) 250 e in
    let c = ltb-true s.count 100000000 f in
    let w = idle_zero s.at_once (length operands) h.1 in
    ((few, omega arith, h.0.2, h.0.3), omega arith))
    (λ f. tt))
    (λ e. lowers_failed n ExecStackOverflow (name_of (OnImage r.op)) s h)

-- a text that was read takes no more steps
idle_behind : (n k : ℕ) (s : BodyValue) → Idle n s → Idle n (behind_bytes k s)
idle_behind n k s h = let e : length (drop k s.text.rest) ≡ length s.text.rest - k = length-drop k s.text.rest in
    (h.0, h.1, omega arith)

lowers_source : (n : ℕ) (source : DataSource) (r : ReadingValue) (operands : List Obj) (s : BodyValue) →
    length operands ≤ 500 → Idle n s → Lowers n (from_source source r operands s)
lowers_source n (Bytes p) r operands s few h =
    lowers_finished n (read_over r (bytes_of s.store p)) operands s few h
lowers_source n Program r operands s few h =
    lowers_finished n (read_on r s.text.rest) operands (behind_bytes (lacks r) s) few (idle_behind n (lacks r) s h)
lowers_source n (Procedure p) r operands s few h = lowers_called n r p operands s few h

lowers_begins : (n : ℕ) (begun : Begun) (operands : List Obj) (s : BodyValue) → length operands ≤ 500 → Idle n s →
    Lowers n (begins begun operands s)
lowers_begins n begun operands s few h = by_test (Lowers n) (lacks begun.reading == 0)
    (finished begun.reading operands s) (from_source begun.source begun.reading operands s)
    (λ e. lowers_finished n begun.reading operands s few h)
    (λ e. lowers_source n begun.source begun.reading operands s few h)

-- an image operator leaves fewer steps, where nothing waits
pub lowers_image : (n : ℕ) (outcome : Outcome Begun) (command : List ℕ) (s : BodyValue) → Idle n s →
    Lowers n (after_image outcome command s)
lowers_image n (GoesOn begun) command s h =
    let e : length (drop begun.operands s.operands) ≡ length s.operands - begun.operands =
    length-drop begun.operands s.operands in
    let k = h.0.0 in lowers_begins n begun (drop begun.operands s.operands) s (omega arith) h
lowers_image n (Refuses name) command s h = lowers_failed n name command s h

lowers_reads : (n : ℕ) (r : ReadingValue) (p : PartValue) (bytes : List ℕ) (operands : List Obj) (s : BodyValue) →
    length operands ≤ 500 → Idle n s → Lowers n (reads_on r p bytes operands s)
lowers_reads n r p bytes operands s few h =
    by_test (Lowers n) ((length bytes == 0) || (lacks (read_on r bytes) == 0))
    (finished (read_on r bytes) operands s) (called (read_on r bytes) p operands s)
    (λ e. lowers_finished n (read_on r bytes) operands s few h)
    (λ e. lowers_called n (read_on r bytes) p operands s few h)

lowers_procedure : (n : ℕ) (r : ReadingValue) (p : PartValue) (operands : List Obj) (s : BodyValue) →
    length operands ≤ 500 → Idle n s → Lowers n (after_procedure r p operands s)
lowers_procedure n r p (Text q ∷ rest) s few h = lowers_reads n r p (bytes_of s.store q) rest s (omega arith) h
lowers_procedure n r p operands s few h = lowers_failed n TypeCheck (name_of (OnImage r.op)) s h

-- an operator that goes on leaves fewer steps, where nothing waits
pub lowers_returned : (n : ℕ) (frames : List Frame) (s : BodyValue) → Idle n s → Lowers n (returned frames s)
unfolding returned
lowers_returned n [] s h = let w = idle_zero s.at_once (length s.operands) h.1 in (h.0, omega arith)
lowers_returned n (Image p r ∷ frames) s h =
    lowers_procedure n r p s.operands (record s { frames = frames }) h.0.0 h
