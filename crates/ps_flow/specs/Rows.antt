-- The operators on the execution stack (PostScript Language Reference, third edition, 8.2 Operator Details), each by
-- its operands, the top first. Own rules: enough of them, then their types, then the operator's own conditions; at most
-- 250 levels; a forall keeps the contents at its start.
use Rattle.std.specs.Prelude.{ℕ, ℤ, Bool, true, false, List, [], ◌∷◌, length, Option, Some, None, pos, int_lt}
use Rattle.std.specs.Prelude.{unsigned_abs, map, if◌then◌else◌}
use Rattle.std.specs.List.{range_with_len}
use Rattle.press_fault.specs.declared.names.PsName.TheVariants.{StackUnderflow, TypeCheck, RangeCheck, InvalidExit}
use Rattle.ps_store.specs.declared.obj.Obj.{Obj}
use Rattle.ps_store.specs.declared.obj.Obj.TheVariants.{Bool as Truth, Int, Array, Text, Dict}
use Rattle.ps_store.specs.declared.oper.FlowOp.{FlowOp}
use Rattle.ps_store.specs.declared.oper.FlowOp.TheVariants as Op
use Rattle.ps_store.specs.Parts.{PartValue}
use Rattle.ps_store.specs.Store.{StoreValue, entries_of, entry_at}
use Rattle.ps_store.specs.Gathering.{elements}
use Rattle.ps_store.specs.Outcome.{Outcome, Goes, Refuses}
use Rattle.ps_flow.specs.declared.counter.Counter.{Counter}
use Rattle.ps_flow.specs.declared.level.Level.{Level}
use Rattle.ps_flow.specs.declared.level.Level.TheVariants.{Procedure, Stopped, Loop, Repeat, For, Forall, ForallEntries}
use Rattle.ps_flow.specs.Binding.{bind_store}
use Rattle.ps_store.specs.Numbers.{raw_of}
use Rattle.ps_flow.specs.Counting.{counter_from}
use Rattle.ps_flow.specs.Levels.{nothing_of, below_loop, below_stopped}
use Rattle.ps_flow.specs.Course.{OperandsAndLevels, opens, with_store, with_levels}

-- `exec`: a procedure opens a level, and what is none is executed at once
abbrev pub exec_row : List Obj → List Level → Outcome OperandsAndLevels
exec_row (Array p true ∷ rest) levels = opens (Procedure p) rest levels None
exec_row (o ∷ rest) levels = Goes (record { operands = rest; levels = levels; at_once = Some o })
exec_row [] levels = Refuses StackUnderflow

-- `if`: the procedure opens a level where the boolean is true
abbrev pub if_row : List Obj → List Level → Outcome OperandsAndLevels
if_row (Array p true ∷ Truth true ∷ rest) levels = opens (Procedure p) rest levels None
if_row (Array p true ∷ Truth false ∷ rest) levels = Goes (record { operands = rest; levels = levels; at_once = None })
if_row (b ∷ a ∷ rest) levels = Refuses TypeCheck
if_row operands levels = Refuses StackUnderflow

-- `ifelse`: the first procedure opens a level where the boolean is true, and the second, the top operand, where it
-- isn't
abbrev pub ifelse_row : List Obj → List Level → Outcome OperandsAndLevels
ifelse_row (Array q true ∷ Array p true ∷ Truth true ∷ rest) levels = opens (Procedure p) rest levels None
ifelse_row (Array q true ∷ Array p true ∷ Truth false ∷ rest) levels = opens (Procedure q) rest levels None
ifelse_row (c ∷ b ∷ a ∷ rest) levels = Refuses TypeCheck
ifelse_row operands levels = Refuses StackUnderflow

-- a for by its control variable and its limit, where its operands are numbers
abbrev pub for_from : Option Counter → Option ℤ → PartValue → List Obj → List Level → Outcome OperandsAndLevels
for_from (Some counter) (Some limit) p rest levels = opens (For (Some counter) limit p (nothing_of p)) rest levels None
for_from counter limit p rest levels = Refuses TypeCheck

-- `for`, by first value, step, limit and procedure: a level is opened, also where it has no turn
abbrev pub for_row : List Obj → List Level → Outcome OperandsAndLevels
for_row (Array p true ∷ limit ∷ step ∷ first ∷ rest) levels =
    for_from (counter_from first step) (raw_of limit) p rest levels
for_row (d ∷ c ∷ b ∷ a ∷ rest) levels = Refuses TypeCheck
for_row operands levels = Refuses StackUnderflow

-- `repeat`: so many turns of a procedure; a number below 0 is rangecheck, before any execstackoverflow
abbrev pub repeat_row : List Obj → List Level → Outcome OperandsAndLevels
repeat_row (Array p true ∷ Int n ∷ rest) levels =
    if int_lt n (pos 0) then Refuses RangeCheck else opens (Repeat (unsigned_abs n) p (nothing_of p)) rest levels None
repeat_row (b ∷ a ∷ rest) levels = Refuses TypeCheck
repeat_row operands levels = Refuses StackUnderflow

-- `loop`: turns of a procedure without end
abbrev pub loop_row : List Obj → List Level → Outcome OperandsAndLevels
loop_row (Array p true ∷ rest) levels = opens (Loop p (nothing_of p)) rest levels None
loop_row (a ∷ rest) levels = Refuses TypeCheck
loop_row [] levels = Refuses StackUnderflow

-- the keys and values of a dictionary, in the order in which they were first defined
abbrev pub keys_and_values : StoreValue → ℕ → List (Obj × Obj)
keys_and_values s dict = map (entry_at s dict) (range_with_len 0 (length (entries_of s dict)))

-- `forall`: it keeps the elements of an array, the bytes of a string, or the keys and values of a dictionary as they
-- are at its start
abbrev pub forall_row : List Obj → List Level → StoreValue → Outcome OperandsAndLevels
forall_row (Array p true ∷ Array a x ∷ rest) levels s = opens (Forall (elements s a) p (nothing_of p)) rest levels None
forall_row (Array p true ∷ Text t ∷ rest) levels s = opens (Forall (elements s t) p (nothing_of p)) rest levels None
forall_row (Array p true ∷ Dict d ∷ rest) levels s =
    opens (ForallEntries (keys_and_values s d) p (nothing_of p)) rest levels None
forall_row (b ∷ a ∷ rest) levels s = Refuses TypeCheck
forall_row operands levels s = Refuses StackUnderflow

-- the levels are cut back, where there is one to cut back to, else invalidexit
abbrev pub cut_back : List Obj → Option (List Level) → Outcome OperandsAndLevels
cut_back operands (Some below) = Goes (record { operands = operands; levels = below; at_once = None })
cut_back operands None = Refuses InvalidExit

-- `exit`: the levels below the innermost loop, where no `stopped` stands between, else invalidexit
abbrev pub exit_row : List Obj → List Level → Outcome OperandsAndLevels
exit_row operands levels = cut_back operands (below_loop levels)

-- `stop`: the innermost `stopped` goes; its true is pushed afterwards, as after an error: a refusal of that comes
-- outside it
abbrev pub stop_row : List Obj → List Level → Outcome OperandsAndLevels
stop_row operands levels = cut_back operands (below_stopped levels)

-- `stopped`: one level in any case; what is no procedure is executed at once inside it
abbrev pub stopped_row : List Obj → List Level → Outcome OperandsAndLevels
stopped_row (Array p true ∷ rest) levels = opens (Stopped p) rest levels None
stopped_row (o ∷ rest) levels = opens (Stopped (record { id = 0; start = 0; len = 0 })) rest levels (Some o)
stopped_row [] levels = Refuses StackUnderflow

-- `bind`: the store that it leaves; typecheck where the top operand, which stays, is no procedure
abbrev pub bind_row : List Obj → StoreValue → List ℕ → Outcome StoreValue
bind_row (Array p true ∷ rest) s dicts = Goes (bind_store dicts s p)
bind_row (o ∷ rest) s dicts = Refuses TypeCheck
bind_row [] s dicts = Refuses StackUnderflow

-- what each operator on the execution stack does, with the store, and with the dictionary stack, the top first
unfoldable pub flow_row : FlowOp → List Obj → List Level → StoreValue → List ℕ →
    Outcome (OperandsAndLevels × StoreValue)
flow_row Op.Exec operands levels s dicts = with_store s (exec_row operands levels)
flow_row Op.If operands levels s dicts = with_store s (if_row operands levels)
flow_row Op.Ifelse operands levels s dicts = with_store s (ifelse_row operands levels)
flow_row Op.For operands levels s dicts = with_store s (for_row operands levels)
flow_row Op.Repeat operands levels s dicts = with_store s (repeat_row operands levels)
flow_row Op.Loop operands levels s dicts = with_store s (loop_row operands levels)
flow_row Op.Forall operands levels s dicts = with_store s (forall_row operands levels s)
flow_row Op.Exit operands levels s dicts = with_store s (exit_row operands levels)
flow_row Op.Stop operands levels s dicts = with_store s (stop_row operands levels)
flow_row Op.Stopped operands levels s dicts = with_store s (stopped_row operands levels)
flow_row Op.Bind operands levels s dicts = with_levels operands levels (bind_row operands s dicts)

-- the operators that may run out of memory: `forall`, which keeps the contents at its start, and `bind`, which keeps
-- what it reaches
abbrev pub takes_memory : FlowOp → Bool
takes_memory Op.Forall = true
takes_memory Op.Bind = true
takes_memory op = false
