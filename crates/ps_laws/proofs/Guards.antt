-- Guarded procedures among the levels: what opens and takes away levels, and how many are left.
use Rattle.std.specs.Prelude.{ℤ, pos, nat_lt, int_lt, unsigned_abs, ◌==◌, cond}
use Rattle.std.proofs.lemmas.List.Sums.{sum_by-cons}
use Rattle.std.proofs.Common.{◌≡◌, ◌∙◌, ℕ, suc, ◌+◌, ◌-◌, ◌≤◌, true, false, List, [], ◌∷◌, length, Option}
use Rattle.std.proofs.Common.{Some, None, refl, sym, ap, subst, arith}
use Rattle.press_fault.specs.declared.names.PsName.TheVariants.{RangeCheck, ExecStackOverflow}
use Rattle.ps_store.specs.declared.obj.Obj.{Obj}
use Rattle.ps_store.specs.declared.obj.Obj.TheVariants.{Bool as Truth, Int, Text, Array, Dict}
use Rattle.ps_store.specs.declared.oper.FlowOp.{FlowOp}
use Rattle.ps_store.specs.declared.oper.FlowOp.TheVariants as Op
use Rattle.ps_store.specs.Parts.{PartValue}
use Rattle.ps_store.specs.Store.{StoreValue}
use Rattle.ps_store.specs.Gathering.{elements}
use Rattle.ps_store.specs.Numbers.{raw_of}
use Rattle.ps_store.specs.Outcome.{Outcome, Goes, Refuses}
use Rattle.ps_flow.specs.declared.counter.Counter.{Counter}
use Rattle.ps_flow.specs.declared.pushes.Pushes.TheVariants.{Nothing}
use Rattle.ps_flow.specs.declared.level.Level.{Level}
use Rattle.ps_flow.specs.declared.level.Level.TheVariants.{Procedure, Stopped, Guarded, Loop, Repeat, For, Forall}
use Rattle.ps_flow.specs.declared.level.Level.TheVariants.{ForallEntries}
use Rattle.ps_flow.specs.Counting.{counter_from}
use Rattle.ps_flow.specs.Levels.{is_stopped, is_guarded, is_loop, holds_exit, guarded_in, below_stopped, below_loop}
use Rattle.ps_flow.specs.Levels.{nothing_of, behind, running, begins, ends, Given, Value, for_turn, for_given}
use Rattle.ps_flow.specs.Levels.{forall_given, entries_given, given_of, Upcoming, Advance, Next, after, next_of}
use Rattle.ps_flow.specs.Levels.Upcoming.{Run, Turn, Passed, Returned, Empty}
use Rattle.ps_flow.specs.Levels.Advance.{Ends, Passes, Returns, Gives}
use Rattle.ps_flow.specs.Course.{OperandsAndLevels, opens, with_store, with_levels}
use Rattle.ps_flow.specs.Rows.{exec_row, if_row, ifelse_row, for_from, for_row, repeat_row, loop_row, keys_and_values}
use Rattle.ps_flow.specs.Rows.{forall_row, cut_back, stopped_row, bind_row, flow_row}
use Rattle.ps_laws.proofs.Operands.{by_test}

-- of a level and those below it
guarded_on : (level : Level) (below : List Level) →
    guarded_in (level ∷ below) ≡ cond (is_guarded level) 1 0 + guarded_in below
guarded_on level below = sum_by-cons (λ (x : Level). cond (is_guarded x) 1 0) level below

-- a level that is no guarded procedure adds none
plain : (level : Level) (below : List Level) → is_guarded level ≡ false →
    guarded_in (level ∷ below) ≡ guarded_in below
plain level below e =
    let g : guarded_in (level ∷ below) ≡ 0 + guarded_in below =
    guarded_on level below ∙ ap (λ b. cond b 1 0 + guarded_in below) e in omega (arith, g)

-- a guarded procedure is one more
one_more : (level : Level) (below : List Level) → is_guarded level ≡ true →
    guarded_in (level ∷ below) ≡ 1 + guarded_in below
one_more level below e = guarded_on level below ∙ ap (λ b. cond b 1 0 + guarded_in below) e

-- a level in place of one of the same kind
alike : (new old : Level) (below : List Level) → is_guarded new ≡ is_guarded old →
    guarded_in (new ∷ below) ≡ guarded_in (old ∷ below)
alike new old below e = guarded_on new below
    ∙ (ap (λ b. cond b 1 0 + guarded_in below) e ∙ sym (guarded_on old below))

-- a guarded procedure more is called
pub guarded_more : (p : PartValue) (below : List Level) → guarded_in (Guarded p ∷ below) ≡ suc (guarded_in below)
guarded_more p below = let e = one_more (Guarded p) below refl in omega (arith, e)

-- no more are below a level
pub fewer_below : (level : Level) (below : List Level) → guarded_in below ≤ guarded_in (level ∷ below)
fewer_below level below = omega (arith, guarded_on level below)

loop_plain : (level : Level) → is_loop level ≡ true → is_guarded level ≡ false
loop_plain (Guarded rest) e = absurd cc
loop_plain level e = refl

passed_plain : (level : Level) → holds_exit level ≡ false → is_guarded level ≡ false
passed_plain (Guarded rest) e = absurd cc
passed_plain level e = refl

-- what an operator on the execution stack leaves has so many guarded procedures
abbrev CourseHas : ℕ → Outcome OperandsAndLevels → Type 0
CourseHas n (Goes course) = guarded_in course.levels ≡ n
CourseHas n (Refuses name) = Unit {0}

-- the same with the store
abbrev pub FlowHas : ℕ → Outcome (OperandsAndLevels × StoreValue) → Type 0
FlowHas n (Goes course) = guarded_in course.0.levels ≡ n
FlowHas n (Refuses name) = Unit {0}

has_open : (n : ℕ) (level : Level) (rest : List Obj) (ls : List Level) (at_once : Option Obj) →
    guarded_in (level ∷ ls) ≡ n → CourseHas n (opens level rest ls at_once)
has_open n level rest ls at_once h = by_test (CourseHas n) (nat_lt (length ls) 250)
    (Goes (record { operands = rest; levels = level ∷ ls; at_once = at_once })) (Refuses ExecStackOverflow) (λ e. h)
    (λ e. tt)

has_exec : (n : ℕ) (os : List Obj) (ls : List Level) → guarded_in ls ≡ n → CourseHas n (exec_row os ls)
has_exec n (Array p true ∷ rest) ls h = has_open n (Procedure p) rest ls None h
has_exec n (o ∷ rest) ls h = h
has_exec n [] ls h = tt

has_if : (n : ℕ) (os : List Obj) (ls : List Level) → guarded_in ls ≡ n → CourseHas n (if_row os ls)
has_if n (Array p true ∷ Truth true ∷ rest) ls h = has_open n (Procedure p) rest ls None h
has_if n (Array p true ∷ Truth false ∷ rest) ls h = h
has_if n (b ∷ a ∷ rest) ls h = tt
has_if n os ls h = tt

has_ifelse : (n : ℕ) (os : List Obj) (ls : List Level) → guarded_in ls ≡ n → CourseHas n (ifelse_row os ls)
has_ifelse n (Array q true ∷ Array p true ∷ Truth true ∷ rest) ls h = has_open n (Procedure p) rest ls None h
has_ifelse n (Array q true ∷ Array p true ∷ Truth false ∷ rest) ls h = has_open n (Procedure q) rest ls None h
has_ifelse n (c ∷ b ∷ a ∷ rest) ls h = tt
has_ifelse n os ls h = tt

has_for_from : (n : ℕ) (counter : Option Counter) (limit : Option ℤ) (p : PartValue) (rest : List Obj)
    (ls : List Level) → guarded_in ls ≡ n → CourseHas n (for_from counter limit p rest ls)
has_for_from n (Some counter) (Some limit) p rest ls h =
    has_open n (For (Some counter) limit p (nothing_of p)) rest ls None h
has_for_from n counter limit p rest ls h = tt

has_for : (n : ℕ) (os : List Obj) (ls : List Level) → guarded_in ls ≡ n → CourseHas n (for_row os ls)
has_for n (Array p true ∷ limit ∷ step ∷ first ∷ rest) ls h =
    has_for_from n (counter_from first step) (raw_of limit) p rest ls h
has_for n (d ∷ c ∷ b ∷ a ∷ rest) ls h = tt
has_for n os ls h = tt

has_repeat : (n : ℕ) (os : List Obj) (ls : List Level) → guarded_in ls ≡ n → CourseHas n (repeat_row os ls)
has_repeat n (Array p true ∷ Int k ∷ rest) ls h = by_test (CourseHas n) (int_lt k (pos 0)) (Refuses RangeCheck)
    (opens (Repeat (unsigned_abs k) p (nothing_of p)) rest ls None) (λ e. tt)
    (λ e. has_open n (Repeat (unsigned_abs k) p (nothing_of p)) rest ls None h)
has_repeat n (b ∷ a ∷ rest) ls h = tt
has_repeat n os ls h = tt

has_loop : (n : ℕ) (os : List Obj) (ls : List Level) → guarded_in ls ≡ n → CourseHas n (loop_row os ls)
has_loop n (Array p true ∷ rest) ls h = has_open n (Loop p (nothing_of p)) rest ls None h
has_loop n (a ∷ rest) ls h = tt
has_loop n [] ls h = tt

has_forall : (n : ℕ) (os : List Obj) (ls : List Level) (s : StoreValue) → guarded_in ls ≡ n →
    CourseHas n (forall_row os ls s)
has_forall n (Array p true ∷ Array a x ∷ rest) ls s h =
    has_open n (Forall (elements s a) p (nothing_of p)) rest ls None h
has_forall n (Array p true ∷ Text t ∷ rest) ls s h =
    has_open n (Forall (elements s t) p (nothing_of p)) rest ls None h
has_forall n (Array p true ∷ Dict d ∷ rest) ls s h =
    has_open n (ForallEntries (keys_and_values s d) p (nothing_of p)) rest ls None h
has_forall n (b ∷ a ∷ rest) ls s h = tt
has_forall n os ls s h = tt

has_stopped : (n : ℕ) (os : List Obj) (ls : List Level) → guarded_in ls ≡ n → CourseHas n (stopped_row os ls)
has_stopped n (Array p true ∷ rest) ls h = has_open n (Stopped p) rest ls None h
has_stopped n (o ∷ rest) ls h = has_open n (Stopped (record { id = 0; start = 0; len = 0 })) rest ls (Some o) h
has_stopped n [] ls h = tt

-- as many are left
abbrev LeavesAll : ℕ → Option (List Level) → Type 0
LeavesAll n (Some below) = guarded_in below ≡ n
LeavesAll n None = Unit {0}

-- `exit` takes no guarded procedure away
exit_leaves : (n : ℕ) (ls : List Level) → guarded_in ls ≡ n → LeavesAll n (below_loop ls)
exit_leaves n [] h = tt
exit_leaves n (level ∷ below) h = by_test (LeavesAll n) (is_loop level) (Some below) _
    (λ e. sym (plain level below (loop_plain level e)) ∙ h)
    (λ e. by_test (LeavesAll n) (holds_exit level) None (below_loop below) (λ f. tt)
    (λ f. exit_leaves n below (sym (plain level below (passed_plain level f)) ∙ h)))

has_cut : (n : ℕ) (os : List Obj) (cut : Option (List Level)) → LeavesAll n cut → CourseHas n (cut_back os cut)
has_cut n os (Some below) h = h
has_cut n os None h = tt

has_all : (n : ℕ) (s : StoreValue) (outcome : Outcome OperandsAndLevels) → CourseHas n outcome →
    FlowHas n (with_store s outcome)
has_all n s (Goes course) h = h
has_all n s (Refuses name) h = tt

has_bind : (n : ℕ) (os : List Obj) (ls : List Level) (outcome : Outcome StoreValue) → guarded_in ls ≡ n →
    FlowHas n (with_levels os ls outcome)
has_bind n os ls (Goes store) h = h
has_bind n os ls (Refuses name) h = tt

-- how many `stop` leaves
abbrev pub StopLeaves : ℕ → Outcome (OperandsAndLevels × StoreValue) → Type 0
StopLeaves n (Goes course) = guarded_in course.0.levels ≤ n
StopLeaves n (Refuses name) = Unit {0}

abbrev LeavesFew : ℕ → Option (List Level) → Type 0
LeavesFew n (Some below) = guarded_in below ≤ n
LeavesFew n None = Unit {0}

few_more : (m n : ℕ) (cut : Option (List Level)) → m ≤ n → LeavesFew m cut → LeavesFew n cut
few_more m n (Some below) le h = omega arith
few_more m n None le h = tt

few_below : (ls : List Level) → LeavesFew (guarded_in ls) (below_stopped ls)
few_below [] = tt
few_below (level ∷ below) = by_test (LeavesFew (guarded_in (level ∷ below))) (is_stopped level) (Some below)
    (below_stopped below) (λ e. fewer_below level below)
    (λ e. few_more (guarded_in below) (guarded_in (level ∷ below)) (below_stopped below) (fewer_below level below)
    (few_below below))

few_cut : (n : ℕ) (os : List Obj) (s : StoreValue) (cut : Option (List Level)) → LeavesFew n cut →
    StopLeaves n (with_store s (cut_back os cut))
few_cut n os s (Some below) h = h
few_cut n os s None h = tt

-- `stop` leaves no more guarded procedures
pub stop_leaves : (os : List Obj) (ls : List Level) (s : StoreValue) (dicts : List ℕ) →
    StopLeaves (guarded_in ls) (flow_row Op.Stop os ls s dicts)
unfolding flow_row
stop_leaves os ls s dicts = few_cut (guarded_in ls) os s (below_stopped ls) (few_below ls)

-- whether an operator is another one than `stop`
abbrev pub IsNoStop : FlowOp → Type 0
IsNoStop Op.Stop = ⊥
IsNoStop op = Unit {0}

-- each operator on the execution stack but `stop` leaves as many guarded procedures
pub flow_has : (op : FlowOp) (os : List Obj) (ls : List Level) (s : StoreValue) (dicts : List ℕ) → IsNoStop op →
    FlowHas (guarded_in ls) (flow_row op os ls s dicts)
unfolding flow_row
flow_has Op.Exec os ls s dicts k = has_all (guarded_in ls) s _ (has_exec (guarded_in ls) os ls refl)
flow_has Op.If os ls s dicts k = has_all (guarded_in ls) s _ (has_if (guarded_in ls) os ls refl)
flow_has Op.Ifelse os ls s dicts k = has_all (guarded_in ls) s _ (has_ifelse (guarded_in ls) os ls refl)
flow_has Op.For os ls s dicts k = has_all (guarded_in ls) s _ (has_for (guarded_in ls) os ls refl)
flow_has Op.Repeat os ls s dicts k = has_all (guarded_in ls) s _ (has_repeat (guarded_in ls) os ls refl)
flow_has Op.Loop os ls s dicts k = has_all (guarded_in ls) s _ (has_loop (guarded_in ls) os ls refl)
flow_has Op.Forall os ls s dicts k = has_all (guarded_in ls) s _ (has_forall (guarded_in ls) os ls s refl)
flow_has Op.Exit os ls s dicts k = has_all (guarded_in ls) s _
    (has_cut (guarded_in ls) os (below_loop ls) (exit_leaves (guarded_in ls) ls refl))
flow_has Op.Stop os ls s dicts k = absurd k
flow_has Op.Stopped os ls s dicts k = has_all (guarded_in ls) s _ (has_stopped (guarded_in ls) os ls refl)
flow_has Op.Bind os ls s dicts k = has_bind (guarded_in ls) os ls (bind_row os s dicts) refl

-- a level that goes is a guarded procedure exactly where it returns, and one that stays is of its kind
abbrev Turns : Level → Advance → Level → Type 0
Turns old Ends new = is_guarded old ≡ false
Turns old Passes new = is_guarded old ≡ false
Turns old Returns new = is_guarded old ≡ true
Turns old (Gives (Run place)) new = is_guarded new ≡ is_guarded old
Turns old (Gives (Turn op items)) new = is_guarded new ≡ is_guarded old
Turns old (Gives Passed) new = ⊥
Turns old (Gives Returned) new = ⊥
Turns old (Gives Empty) new = ⊥

abbrev GivenTurns : Level → Given → Type 0
GivenTurns old given = Turns old given.gives given.level

turns_running : (old : Level) (rest : PartValue) (level : PartValue → Level) (over : Given) →
    is_guarded (level (behind rest)) ≡ is_guarded old → GivenTurns old over → GivenTurns old (running rest level over)
turns_running old rest level over e h = by_test (GivenTurns old) (rest.len == 0) over
    (record { gives = Gives (Run rest); level = level (behind rest) }) (λ f. h) (λ f. e)

turns_for : (turn : Value) (value : Option Obj) (old : Level) (limit : ℤ) (body rest : PartValue) →
    turn.value ≡ value → is_guarded old ≡ false → GivenTurns old (for_given turn limit body rest)
turns_for turn None old limit body rest e h = rw e h
turns_for turn (Some value) old limit body rest e h = rw e (sym h)

turns_forall : (left : List Obj) (old : Level) (body rest : PartValue) → is_guarded old ≡ false →
    GivenTurns old (forall_given left body rest)
turns_forall [] old body rest h = h
turns_forall (o ∷ left) old body rest h = sym h

turns_entries : (left : List (Obj × Obj)) (old : Level) (body rest : PartValue) → is_guarded old ≡ false →
    GivenTurns old (entries_given left body rest)
turns_entries [] old body rest h = h
turns_entries ((key, value) ∷ left) old body rest h = sym h

turns_of : (level : Level) → GivenTurns level (given_of level)
turns_of (Procedure rest) = turns_running (Procedure rest) rest Procedure (ends (Procedure rest)) refl refl
turns_of (Stopped rest) =
    turns_running (Stopped rest) rest Stopped (record { gives = Passes; level = Stopped rest }) refl refl
turns_of (Guarded rest) =
    turns_running (Guarded rest) rest Guarded (record { gives = Returns; level = Guarded rest }) refl refl
turns_of (Loop body rest) =
    turns_running (Loop body rest) rest (Loop body) (begins Op.Loop Nothing (Loop body body)) refl refl
turns_of (Repeat left body rest) = turns_running (Repeat left body rest) rest (Repeat left body) _ refl
    (by_test (GivenTurns (Repeat left body rest)) (left == 0) (ends (Repeat left body rest))
    (begins Op.Repeat Nothing (Repeat (left - 1) body body)) (λ e. refl) (λ e. refl))
turns_of (For next limit body rest) = turns_running (For next limit body rest) rest (For next limit body)
    (for_given (for_turn next limit) limit body rest) refl
    (turns_for (for_turn next limit) (for_turn next limit).value (For next limit body rest) limit body rest refl refl)
turns_of (Forall left body rest) = turns_running (Forall left body rest) rest (Forall left body)
    (forall_given left body rest) refl (turns_forall left (Forall left body rest) body rest refl)
turns_of (ForallEntries left body rest) = turns_running (ForallEntries left body rest) rest (ForallEntries left body)
    (entries_given left body rest) refl (turns_entries left (ForallEntries left body rest) body rest refl)

-- of n guarded procedures all are left behind what comes next, but for the one that returns
abbrev pub HasBehind : ℕ → Upcoming → List Level → Type 0
HasBehind n (Run place) levels = guarded_in levels ≡ n
HasBehind n (Turn op items) levels = guarded_in levels ≡ n
HasBehind n Passed levels = guarded_in levels ≡ n
HasBehind n Returned levels = suc (guarded_in levels) ≡ n
HasBehind n Empty levels = guarded_in levels ≡ n

has_after : (advance : Advance) (old new : Level) (below : List Level) (further : Next) → Turns old advance new →
    HasBehind (guarded_in below) further.next further.levels →
    HasBehind (guarded_in (old ∷ below)) (after advance new below further).next
    (after advance new below further).levels
has_after Ends old new below further g h =
    subst (λ (n : ℕ). HasBehind n further.next further.levels) (sym (plain old below g)) h
has_after Passes old new below further g h = sym (plain old below g)
has_after Returns old new below further g h = let e = one_more old below g in omega (arith, e)
has_after (Gives (Run place)) old new below further g h = alike new old below g
has_after (Gives (Turn op items)) old new below further g h = alike new old below g
has_after (Gives Passed) old new below further g h = absurd g
has_after (Gives Returned) old new below further g h = absurd g
has_after (Gives Empty) old new below further g h = absurd g

-- what comes next takes a guarded procedure away exactly where it returns
pub has_behind : (levels : List Level) → HasBehind (guarded_in levels) (next_of levels).next (next_of levels).levels
has_behind [] = refl
has_behind (level ∷ below) = has_after (given_of level).gives level (given_of level).level below (next_of below)
    (turns_of level) (has_behind below)
