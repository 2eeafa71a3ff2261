-- The operators on the execution stack keep the limits, and leave fewer steps than were set aside for them.
use Rattle.std.specs.Prelude.{ℤ, pos, nat_lt, int_lt}
use Rattle.std.proofs.lemmas.Bool.{ltb-true}
use Rattle.std.proofs.Common.{ℕ, suc, ◌+◌, ◌*◌, ◌≤◌, ◌<◌, true, false, List, [], ◌∷◌, length, Option, Some, None, arith}
use Rattle.ps_store.specs.declared.obj.Obj.{Obj}
use Rattle.ps_store.specs.declared.obj.Obj.TheVariants.{Bool as Truth, Int, Text, Array, Dict}
use Rattle.ps_store.specs.declared.oper.FlowOp.{FlowOp}
use Rattle.ps_store.specs.declared.oper.FlowOp.TheVariants as Op
use Rattle.ps_store.specs.Parts.{PartValue}
use Rattle.ps_store.specs.Store.{StoreValue}
use Rattle.ps_store.specs.Gathering.{elements}
use Rattle.ps_store.specs.Outcome.{Outcome, Goes, Refuses}
use Rattle.ps_flow.specs.declared.counter.Counter.{Counter}
use Rattle.ps_flow.specs.declared.level.Level.{Level}
use Rattle.ps_flow.specs.declared.level.Level.TheVariants.{Procedure, Stopped, Loop, For, Forall, ForallEntries}
use Rattle.ps_store.specs.Numbers.{raw_of}
use Rattle.ps_flow.specs.Counting.{counter_from}
use Rattle.ps_flow.specs.Levels.{nothing_of, is_loop, is_stopped, holds_exit, below_loop, below_stopped}
use Rattle.ps_flow.specs.Course.{OperandsAndLevels, opens, with_store, with_levels}
use Rattle.ps_flow.specs.Rows.{exec_row, if_row, ifelse_row, for_from, for_row, repeat_row, loop_row, keys_and_values}
use Rattle.ps_flow.specs.Rows.{forall_row, cut_back, stopped_row, bind_row, flow_row}
use Rattle.ps_laws.proofs.Weight.{waiting}
use Rattle.ps_laws.proofs.Operands.{by_test}

-- the limits are kept, and the object that waits and the levels take fewer steps than an object and k operands
-- and l levels
abbrev pub Shrinks : ℕ → ℕ → OperandsAndLevels → Type 0
Shrinks k l course = (length course.operands ≤ 500) × (length course.levels ≤ 250)
    × (waiting course.at_once (length course.operands) + length course.levels < 2 + 2 * k + l)

abbrev pub CourseShrinks : ℕ → ℕ → Outcome OperandsAndLevels → Type 0
CourseShrinks k l (Goes course) = Shrinks k l course
CourseShrinks k l (Refuses name) = Unit {0}

-- the same of what an operator leaves with the store
abbrev pub AllShrinks : ℕ → ℕ → Outcome (OperandsAndLevels × StoreValue) → Type 0
AllShrinks k l (Goes course) = Shrinks k l course.0
AllShrinks k l (Refuses name) = Unit {0}

-- a level opens, and nothing waits
shrinks_open : (k : ℕ) (level : Level) (rest : List Obj) (levels : List Level) → length rest ≤ 500 →
    CourseShrinks k (length levels) (opens level rest levels None)
shrinks_open k level rest levels h = by_test (CourseShrinks k (length levels)) (nat_lt (length levels) 250)
    (Goes (record { operands = rest; levels = level ∷ levels; at_once = None })) _
    (λ e. let l = ltb-true (length levels) 250 e in (h, omega arith, omega arith)) (λ e. tt)

-- a level opens, and an operand waits
shrinks_open_at : (k : ℕ) (level : Level) (o : Obj) (rest : List Obj) (levels : List Level) → length rest ≤ 500 →
    length rest < k → CourseShrinks k (length levels) (opens level rest levels (Some o))
shrinks_open_at k level o rest levels h less =
    by_test (CourseShrinks k (length levels)) (nat_lt (length levels) 250)
    (Goes (record { operands = rest; levels = level ∷ levels; at_once = Some o })) _
    (λ e. let l = ltb-true (length levels) 250 e in (h, omega arith, omega arith)) (λ e. tt)

shrinks_exec : (operands : List Obj) (levels : List Level) → length operands ≤ 500 → length levels ≤ 250 →
    CourseShrinks (length operands) (length levels) (exec_row operands levels)
shrinks_exec (Array p true ∷ rest) levels h g = shrinks_open _ (Procedure p) rest levels (omega arith)
shrinks_exec (o ∷ rest) levels h g = (omega arith, g, omega arith)
shrinks_exec [] levels h g = tt

shrinks_if : (operands : List Obj) (levels : List Level) → length operands ≤ 500 → length levels ≤ 250 →
    CourseShrinks (length operands) (length levels) (if_row operands levels)
shrinks_if (Array p true ∷ Truth true ∷ rest) levels h g = shrinks_open _ (Procedure p) rest levels (omega arith)
shrinks_if (Array p true ∷ Truth false ∷ rest) levels h g = (omega arith, g, omega arith)
shrinks_if (b ∷ a ∷ rest) levels h g = tt
shrinks_if operands levels h g = tt

shrinks_ifelse : (operands : List Obj) (levels : List Level) → length operands ≤ 500 → length levels ≤ 250 →
    CourseShrinks (length operands) (length levels) (ifelse_row operands levels)
shrinks_ifelse (Array q true ∷ Array p true ∷ Truth true ∷ rest) levels h g =
    shrinks_open _ (Procedure p) rest levels (omega arith)
shrinks_ifelse (Array q true ∷ Array p true ∷ Truth false ∷ rest) levels h g =
    shrinks_open _ (Procedure q) rest levels (omega arith)
shrinks_ifelse (c ∷ b ∷ a ∷ rest) levels h g = tt
shrinks_ifelse operands levels h g = tt

shrinks_for_from : (k : ℕ) (counter : Option Counter) (limit : Option ℤ) (p : PartValue) (rest : List Obj)
    (levels : List Level) → length rest ≤ 500 → CourseShrinks k (length levels) (for_from counter limit p rest levels)
shrinks_for_from k (Some counter) (Some limit) p rest levels h =
    shrinks_open k (For (Some counter) limit p (nothing_of p)) rest levels h
shrinks_for_from k counter limit p rest levels h = tt

shrinks_for : (operands : List Obj) (levels : List Level) → length operands ≤ 500 → length levels ≤ 250 →
    CourseShrinks (length operands) (length levels) (for_row operands levels)
shrinks_for (Array p true ∷ limit ∷ step ∷ first ∷ rest) levels h g =
    shrinks_for_from _ (counter_from first step) (raw_of limit) p rest levels (omega arith)
shrinks_for (d ∷ c ∷ b ∷ a ∷ rest) levels h g = tt
shrinks_for operands levels h g = tt

shrinks_repeat : (operands : List Obj) (levels : List Level) → length operands ≤ 500 → length levels ≤ 250 →
    CourseShrinks (length operands) (length levels) (repeat_row operands levels)
shrinks_repeat (Array p true ∷ Int n ∷ rest) levels h g =
    by_test (CourseShrinks (suc (suc (length rest))) (length levels)) (int_lt n (pos 0)) _ _ (λ e. tt)
    (λ e. shrinks_open _ _ rest levels (omega arith))
shrinks_repeat (b ∷ a ∷ rest) levels h g = tt
shrinks_repeat operands levels h g = tt

shrinks_loop : (operands : List Obj) (levels : List Level) → length operands ≤ 500 → length levels ≤ 250 →
    CourseShrinks (length operands) (length levels) (loop_row operands levels)
shrinks_loop (Array p true ∷ rest) levels h g = shrinks_open _ (Loop p (nothing_of p)) rest levels (omega arith)
shrinks_loop (a ∷ rest) levels h g = tt
shrinks_loop [] levels h g = tt

shrinks_forall : (operands : List Obj) (levels : List Level) (s : StoreValue) → length operands ≤ 500 →
    length levels ≤ 250 → CourseShrinks (length operands) (length levels) (forall_row operands levels s)
shrinks_forall (Array p true ∷ Array a x ∷ rest) levels s h g =
    shrinks_open _ (Forall (elements s a) p (nothing_of p)) rest levels (omega arith)
shrinks_forall (Array p true ∷ Text t ∷ rest) levels s h g =
    shrinks_open _ (Forall (elements s t) p (nothing_of p)) rest levels (omega arith)
shrinks_forall (Array p true ∷ Dict d ∷ rest) levels s h g =
    shrinks_open _ (ForallEntries (keys_and_values s d) p (nothing_of p)) rest levels (omega arith)
shrinks_forall (b ∷ a ∷ rest) levels s h g = tt
shrinks_forall operands levels s h g = tt

-- no more than so many levels are left
abbrev AtMost : ℕ → Option (List Level) → Type 0
AtMost n (Some below) = length below ≤ n
AtMost n None = Unit {0}

at_most_more : (n : ℕ) (o : Option (List Level)) → AtMost n o → AtMost (suc n) o
at_most_more n (Some below) h = omega arith
at_most_more n None h = tt

below_loop_fits : (levels : List Level) → AtMost (length levels) (below_loop levels)
below_loop_fits [] = tt
below_loop_fits (level ∷ below) = by_test (AtMost (suc (length below))) (is_loop level) (Some below) _
    (λ e. omega arith) (λ e.
    by_test (AtMost (suc (length below))) (holds_exit level) None (below_loop below) (λ f. tt)
    (λ f. at_most_more (length below) (below_loop below) (below_loop_fits below)))

below_stopped_fits : (levels : List Level) → AtMost (length levels) (below_stopped levels)
below_stopped_fits [] = tt
below_stopped_fits (level ∷ below) = by_test (AtMost (suc (length below))) (is_stopped level) (Some below)
    (below_stopped below) (λ e. omega arith)
    (λ e. at_most_more (length below) (below_stopped below) (below_stopped_fits below))

shrinks_cut : (operands : List Obj) (n : ℕ) (cut : Option (List Level)) → length operands ≤ 500 → n ≤ 250 →
    AtMost n cut → CourseShrinks (length operands) n (cut_back operands cut)
shrinks_cut operands n (Some below) h g f = (h, omega arith, omega arith)
shrinks_cut operands n None h g f = tt

shrinks_stopped : (operands : List Obj) (levels : List Level) → length operands ≤ 500 → length levels ≤ 250 →
    CourseShrinks (length operands) (length levels) (stopped_row operands levels)
shrinks_stopped (Array p true ∷ rest) levels h g = shrinks_open _ (Stopped p) rest levels (omega arith)
shrinks_stopped (o ∷ rest) levels h g = shrinks_open_at _
    (Stopped (record { id = 0; start = 0; len = 0 })) o rest levels (omega arith) (omega arith)
shrinks_stopped [] levels h g = tt

all_shrinks : (k l : ℕ) (s : StoreValue) (outcome : Outcome OperandsAndLevels) → CourseShrinks k l outcome →
    AllShrinks k l (with_store s outcome)
all_shrinks k l s (Goes course) h = h
all_shrinks k l s (Refuses name) h = tt

bind_shrinks : (operands : List Obj) (levels : List Level) (outcome : Outcome StoreValue) → length operands ≤ 500 →
    length levels ≤ 250 → AllShrinks (length operands) (length levels) (with_levels operands levels outcome)
bind_shrinks operands levels (Goes store) h g = (h, g, omega arith)
bind_shrinks operands levels (Refuses name) h g = tt

-- each operator on the execution stack keeps the limits, and leaves fewer steps
pub flow_shrinks : (op : FlowOp) (operands : List Obj) (levels : List Level) (s : StoreValue) (dicts : List ℕ) →
    length operands ≤ 500 → length levels ≤ 250 →
    AllShrinks (length operands) (length levels) (flow_row op operands levels s dicts)
unfolding flow_row
flow_shrinks Op.Exec os ls s dicts h g = all_shrinks _ _ s _ (shrinks_exec os ls h g)
flow_shrinks Op.If os ls s dicts h g = all_shrinks _ _ s _ (shrinks_if os ls h g)
flow_shrinks Op.Ifelse os ls s dicts h g = all_shrinks _ _ s _ (shrinks_ifelse os ls h g)
flow_shrinks Op.For os ls s dicts h g = all_shrinks _ _ s _ (shrinks_for os ls h g)
flow_shrinks Op.Repeat os ls s dicts h g = all_shrinks _ _ s _ (shrinks_repeat os ls h g)
flow_shrinks Op.Loop os ls s dicts h g = all_shrinks _ _ s _ (shrinks_loop os ls h g)
flow_shrinks Op.Forall os ls s dicts h g = all_shrinks _ _ s _ (shrinks_forall os ls s h g)
flow_shrinks Op.Exit os ls s dicts h g =
    all_shrinks _ _ s _ (shrinks_cut os (length ls) (below_loop ls) h g (below_loop_fits ls))
flow_shrinks Op.Stop os ls s dicts h g =
    all_shrinks _ _ s _ (shrinks_cut os (length ls) (below_stopped ls) h g (below_stopped_fits ls))
flow_shrinks Op.Stopped os ls s dicts h g = all_shrinks _ _ s _ (shrinks_stopped os ls h g)
flow_shrinks Op.Bind os ls s dicts h g = bind_shrinks os ls (bind_row os s dicts) h g

-- stop leaves no more levels
abbrev pub StopFits : ℕ → Outcome (OperandsAndLevels × StoreValue) → Type 0
StopFits n (Goes course) = (length course.0.operands ≤ 500) × (length course.0.levels ≤ n)
StopFits n (Refuses name) = Unit {0}

cut_fits : (operands : List Obj) (s : StoreValue) (n : ℕ) (cut : Option (List Level)) → length operands ≤ 500 →
    AtMost n cut → StopFits n (with_store s (cut_back operands cut))
cut_fits operands s n (Some below) h f = (h, f)
cut_fits operands s n None h f = tt

-- `stop` leaves fewer levels
pub stop_fits : (operands : List Obj) (levels : List Level) (s : StoreValue) (dicts : List ℕ) → length operands ≤ 500 →
    StopFits (length levels) (flow_row Op.Stop operands levels s dicts)
unfolding flow_row
stop_fits operands levels s dicts h = cut_fits operands s (length levels) (below_stopped levels) h
    (below_stopped_fits levels)
