-- The operators on the execution stack, and the levels, leave what is of the store.
use Rattle.std.specs.Prelude.{ℤ, pos, nat_lt, int_lt, unsigned_abs}
use Rattle.std.specs.List.{range_with_len}
use Rattle.std.proofs.Common.{◌≡◌, ℕ, suc, ◌≤◌, ◌<◌, true, false, Bool, List, [], ◌∷◌, length, Option, Some, None, refl}
use Rattle.std.proofs.Common.{ap, arith}
use Rattle.ps_store.specs.declared.key.Key.{Key}
use Rattle.ps_store.specs.declared.key.Key.TheVariants as OfKey
use Rattle.ps_store.specs.declared.obj.Obj.{Obj}
use Rattle.ps_store.specs.declared.obj.Obj.TheVariants.{Bool as Truth, Int, Text, Array, Dict}
use Rattle.ps_store.specs.declared.oper.Oper.{Oper}
use Rattle.ps_store.specs.declared.oper.FlowOp.{FlowOp}
use Rattle.ps_store.specs.declared.oper.FlowOp.TheVariants as Op
use Rattle.ps_store.specs.declared.store.Composite.{Composite}
use Rattle.ps_store.specs.declared.store.Composite.TheVariants.{Array as ArrayOf}
use Rattle.ps_store.specs.Parts.{PartValue}
use Rattle.ps_store.specs.Keys.{object_of}
use Rattle.ps_store.specs.Store.{StoreValue, as_objects, entry_at, entries_of}
use Rattle.std.specs.Prelude.{slice_get}
use Rattle.ps_store.specs.Gathering.{elements}
use Rattle.ps_store.specs.Outcome.{Outcome, Goes, Refuses}
use Rattle.ps_flow.specs.declared.counter.Counter.{Counter}
use Rattle.ps_flow.specs.declared.level.Level.{Level}
use Rattle.ps_flow.specs.declared.level.Level.TheVariants.{Procedure, Stopped, Guarded, Loop, Repeat, For, Forall}
use Rattle.ps_flow.specs.declared.level.Level.TheVariants.{ForallEntries}
use Rattle.ps_flow.specs.Binding.{operator_named, bound_to, bound, changed_items, changed_in, changed_made}
use Rattle.ps_flow.specs.Binding.{changed_store, is_reached_place, bind_store}
use Rattle.ps_store.specs.Numbers.{raw_of}
use Rattle.ps_flow.specs.Counting.{counter_from}
use Rattle.ps_flow.specs.Levels.{nothing_of, is_loop, is_stopped, holds_exit, below_loop, below_stopped}
use Rattle.ps_flow.specs.Course.{OperandsAndLevels, opens, with_store, with_levels}
use Rattle.ps_flow.specs.Rows.{exec_row, if_row, ifelse_row, for_from, for_row, repeat_row, loop_row, keys_and_values}
use Rattle.ps_flow.specs.Rows.{forall_row, cut_back, stopped_row, bind_row, flow_row}
use Rattle.ps_laws.specs.Stored.{Each, IsOf, IsPairOf, HoldsOf, IsLevelOf, IsWaitingOf}
use Rattle.ps_laws.proofs.Operands.{by_test}
use Rattle.ps_laws.proofs.Each.{Sound, Grown, OfSome, each_weaker, each_get, each_map, is_more, are_more, holds_more}
use Rattle.ps_laws.proofs.Each.{entries_are}
use Rattle.ps_laws.proofs.StoredData.{are_elements}

pub level_more : (m n : ℕ) → m ≤ n → (level : Level) → IsLevelOf m level → IsLevelOf n level
level_more m n le (Procedure rest) h = omega arith
level_more m n le (Stopped rest) h = omega arith
level_more m n le (Guarded rest) h = omega arith
level_more m n le (Loop body rest) h = (omega arith, omega arith)
level_more m n le (Repeat left body rest) h = (omega arith, omega arith)
level_more m n le (For next limit body rest) h = (omega arith, omega arith)
level_more m n le (Forall left body rest) h =
    (are_more m n le left h.0, (let k = h.1 in omega arith), (let k = h.2 in omega arith))
level_more m n le (ForallEntries left body rest) h = (
  each_weaker (IsPairOf m) (IsPairOf n) (λ pair k. (is_more m n le pair.0 k.0, is_more m n le pair.1 k.1)) left h.0,
  (let k = h.1 in omega arith),
  (let k = h.2 in omega arith),
)

-- levels of a store of m composites are of every larger one
pub levels_more : (m n : ℕ) → m ≤ n → (levels : List Level) → Each (IsLevelOf m) levels → Each (IsLevelOf n) levels
levels_more m n le levels h = each_weaker (IsLevelOf m) (IsLevelOf n) (level_more m n le) levels h

-- all that an operator leaves is of a store of m composites
abbrev pub IsCourseOf : ℕ → OperandsAndLevels → Type 0
IsCourseOf m course = Each (IsOf m) course.operands × Each (IsLevelOf m) course.levels × IsWaitingOf m course.at_once

abbrev pub CourseOf : ℕ → Outcome OperandsAndLevels → Type 0
CourseOf m (Goes course) = IsCourseOf m course
CourseOf m (Refuses name) = Unit {0}

-- what an operator on the execution stack leaves is of its store, which has lost none
abbrev pub FlowOf : ℕ → Outcome (OperandsAndLevels × StoreValue) → Type 0
FlowOf m (Goes course) = Grown m course.1 × IsCourseOf (length course.1.made) course.0
FlowOf m (Refuses name) = Unit {0}

of_open : (m : ℕ) (level : Level) (rest : List Obj) (levels : List Level) (at_once : Option Obj) → IsLevelOf m level →
    Each (IsOf m) rest → Each (IsLevelOf m) levels → IsWaitingOf m at_once →
    CourseOf m (opens level rest levels at_once)
of_open m level rest levels at_once f h g w =
    by_test (CourseOf m) (nat_lt (length levels) 250)
    (Goes (record { operands = rest; levels = level ∷ levels; at_once = at_once })) _ (λ e. (h, (f, g), w)) (λ e. tt)

of_exec : (m : ℕ) (os : List Obj) (ls : List Level) → Each (IsOf m) os → Each (IsLevelOf m) ls →
    CourseOf m (exec_row os ls)
of_exec m (Array p true ∷ rest) ls h g = of_open m (Procedure p) rest ls None h.0 h.1 g tt
of_exec m (o ∷ rest) ls h g = (h.1, g, h.0)
of_exec m [] ls h g = tt

of_if : (m : ℕ) (os : List Obj) (ls : List Level) → Each (IsOf m) os → Each (IsLevelOf m) ls → CourseOf m (if_row os ls)
of_if m (Array p true ∷ Truth true ∷ rest) ls h g = of_open m (Procedure p) rest ls None h.0 h.1.1 g tt
of_if m (Array p true ∷ Truth false ∷ rest) ls h g = (h.1.1, g, tt)
of_if m (b ∷ a ∷ rest) ls h g = tt
of_if m os ls h g = tt

of_ifelse : (m : ℕ) (os : List Obj) (ls : List Level) → Each (IsOf m) os → Each (IsLevelOf m) ls →
    CourseOf m (ifelse_row os ls)
of_ifelse m (Array q true ∷ Array p true ∷ Truth true ∷ rest) ls h g =
    of_open m (Procedure p) rest ls None h.1.0 h.1.1.1 g tt
of_ifelse m (Array q true ∷ Array p true ∷ Truth false ∷ rest) ls h g =
    of_open m (Procedure q) rest ls None h.0 h.1.1.1 g tt
of_ifelse m (c ∷ b ∷ a ∷ rest) ls h g = tt
of_ifelse m os ls h g = tt

of_for_from : (m : ℕ) (counter : Option Counter) (limit : Option ℤ) (p : PartValue) (rest : List Obj)
    (ls : List Level) → p.id < m → Each (IsOf m) rest → Each (IsLevelOf m) ls →
    CourseOf m (for_from counter limit p rest ls)
of_for_from m (Some counter) (Some limit) p rest ls f h g =
    of_open m (For (Some counter) limit p (nothing_of p)) rest ls None (f, f) h g tt
of_for_from m counter limit p rest ls f h g = tt

of_for : (m : ℕ) (os : List Obj) (ls : List Level) → Each (IsOf m) os → Each (IsLevelOf m) ls →
    CourseOf m (for_row os ls)
of_for m (Array p true ∷ limit ∷ step ∷ first ∷ rest) ls h g =
    of_for_from m (counter_from first step) (raw_of limit) p rest ls h.0 h.1.1.1.1 g
of_for m (d ∷ c ∷ b ∷ a ∷ rest) ls h g = tt
of_for m os ls h g = tt

of_repeat : (m : ℕ) (os : List Obj) (ls : List Level) → Each (IsOf m) os → Each (IsLevelOf m) ls →
    CourseOf m (repeat_row os ls)
of_repeat m (Array p true ∷ Int n ∷ rest) ls h g = by_test (CourseOf m) (int_lt n (pos 0)) _ _ (λ e. tt)
    (λ e. of_open m (Repeat (unsigned_abs n) p (nothing_of p)) rest ls None (h.0, h.0) h.1.1 g tt)
of_repeat m (b ∷ a ∷ rest) ls h g = tt
of_repeat m os ls h g = tt

of_loop : (m : ℕ) (os : List Obj) (ls : List Level) → Each (IsOf m) os → Each (IsLevelOf m) ls →
    CourseOf m (loop_row os ls)
of_loop m (Array p true ∷ rest) ls h g = of_open m (Loop p (nothing_of p)) rest ls None (h.0, h.0) h.1 g tt
of_loop m (a ∷ rest) ls h g = tt
of_loop m [] ls h g = tt

key_of_every : (m : ℕ) (key : Key) → IsOf m (object_of key)
key_of_every m (OfKey.Named name) = tt
key_of_every m (OfKey.Integer n) = tt
key_of_every m (OfKey.Real raw) = tt
key_of_every m (OfKey.Truth b) = tt

pair_of : (m : ℕ) (e : Option (Key × Obj)) → OfSome (λ (e : Key × Obj). IsOf m e.1) e → IsPairOf m (as_objects e)
pair_of m (Some entry) h = (key_of_every m entry.0, h)
pair_of m None h = (tt, tt)

pairs_of : (s : StoreValue) (dict : ℕ) → Sound s → Each (IsPairOf (length s.made)) (keys_and_values s dict)
pairs_of s dict h = each_map (IsPairOf (length s.made)) (entry_at s dict)
    (λ at. pair_of (length s.made) (slice_get (entries_of s dict) at)
    (each_get (λ (e : Key × Obj). IsOf (length s.made) e.1) (entries_of s dict) at (entries_are s dict h)))
    (range_with_len 0 (length (entries_of s dict)))

of_forall : (os : List Obj) (ls : List Level) (s : StoreValue) → Sound s → Each (IsOf (length s.made)) os →
    Each (IsLevelOf (length s.made)) ls → CourseOf (length s.made) (forall_row os ls s)
of_forall (Array p true ∷ Array a x ∷ rest) ls s k h g =
    of_open (length s.made) (Forall (elements s a) p (nothing_of p)) rest ls None
    (are_elements s a k, h.0, h.0) h.1.1 g tt
of_forall (Array p true ∷ Text t ∷ rest) ls s k h g =
    of_open (length s.made) (Forall (elements s t) p (nothing_of p)) rest ls None
    (are_elements s t k, h.0, h.0) h.1.1 g tt
of_forall (Array p true ∷ Dict d ∷ rest) ls s k h g =
    of_open (length s.made) (ForallEntries (keys_and_values s d) p (nothing_of p)) rest ls None
    (pairs_of s d k, h.0, h.0) h.1.1 g tt
of_forall (b ∷ a ∷ rest) ls s k h g = tt
of_forall os ls s k h g = tt

of_below_loop : (m : ℕ) (ls : List Level) → Each (IsLevelOf m) ls → OfSome (Each (IsLevelOf m)) (below_loop ls)
of_below_loop m [] h = tt
of_below_loop m (level ∷ below) h = by_test (OfSome (Each (IsLevelOf m))) (is_loop level) (Some below) _ (λ e. h.1)
    (λ e.
    by_test (OfSome (Each (IsLevelOf m))) (holds_exit level) None (below_loop below) (λ f. tt)
    (λ f. of_below_loop m below h.1))

of_below_stopped : (m : ℕ) (ls : List Level) → Each (IsLevelOf m) ls → OfSome (Each (IsLevelOf m)) (below_stopped ls)
of_below_stopped m [] h = tt
of_below_stopped m (level ∷ below) h = by_test (OfSome (Each (IsLevelOf m))) (is_stopped level) (Some below)
    (below_stopped below) (λ e. h.1) (λ e. of_below_stopped m below h.1)

of_cut : (m : ℕ) (os : List Obj) (cut : Option (List Level)) → Each (IsOf m) os → OfSome (Each (IsLevelOf m)) cut →
    CourseOf m (cut_back os cut)
of_cut m os (Some below) h g = (h, g, tt)
of_cut m os None h g = tt

of_stopped : (m : ℕ) (os : List Obj) (ls : List Level) → 2 ≤ m → Each (IsOf m) os → Each (IsLevelOf m) ls →
    CourseOf m (stopped_row os ls)
of_stopped m (Array p true ∷ rest) ls le h g = of_open m (Stopped p) rest ls None h.0 h.1 g tt
of_stopped m (o ∷ rest) ls le h g = of_open m (Stopped (record { id = 0; start = 0; len = 0 })) rest ls (Some o)
    (omega arith) h.1 g h.0
of_stopped m [] ls le h g = tt

-- bind changes no number of composites, and puts operators in
bound_of : (m : ℕ) (op : Option Oper) (o : Obj) → IsOf m o → IsOf m (bound_to op o)
bound_of m (Some op) o h = tt
bound_of m None o h = h

items_of : (m : ℕ) (test : ℕ → Bool) (change : Obj → Obj) (items : List Obj) →
    ((o : Obj) → IsOf m o → IsOf m (change o)) → Each (IsOf m) items → Each (IsOf m) (changed_items test change items)
unfolding changed_items
items_of m test change [] f h = tt
items_of m test change (o ∷ items) f h = (
  by_test (IsOf m) (test 0) (change o) o (λ e. f o h.0) (λ e. h.0),
  items_of m (λ at. test (suc at)) change items f h.1,
)

changed_of : (m : ℕ) (test : ℕ → Bool) (change : Obj → Obj) (c : Composite) →
    ((o : Obj) → IsOf m o → IsOf m (change o)) → HoldsOf m c → HoldsOf m (changed_in test change c)
changed_of m test change (ArrayOf items) f h = items_of m test change items f h
changed_of m test change c f h = h

made_of : (m : ℕ) (test : ℕ → ℕ → Bool) (change : Obj → Obj) (made : List Composite) →
    ((o : Obj) → IsOf m o → IsOf m (change o)) → Each (HoldsOf m) made →
    Each (HoldsOf m) (changed_made test change made)
unfolding changed_made
made_of m test change [] f h = tt
made_of m test change (c ∷ made) f h = (
  changed_of m (test 0) change c f h.0,
  made_of m (λ id. test (suc id)) change made f h.1,
)

as_many : (test : ℕ → ℕ → Bool) (change : Obj → Obj) (made : List Composite) →
    length (changed_made test change made) ≡ length made
unfolding changed_made
as_many test change [] = refl
as_many test change (c ∷ made) = ap suc (as_many (λ id. test (suc id)) change made)

grown_changed : (test : ℕ → ℕ → Bool) (change : Obj → Obj) (s : StoreValue) → Sound s →
    ((o : Obj) → IsOf (length s.made) o → IsOf (length s.made) (change o)) →
    Grown (length s.made) (changed_store test change s)
grown_changed test change s h f =
    let e = as_many test change s.made in (
      (
        each_weaker (HoldsOf (length s.made)) (HoldsOf (length (changed_made test change s.made)))
            (holds_more (length s.made) (length (changed_made test change s.made)) (omega arith))
            (changed_made test change s.made) (made_of (length s.made) test change s.made f h.0),
        omega arith,
      ),
      omega arith,
    )

grown_bound : (dicts : List ℕ) (s : StoreValue) (p : PartValue) → Sound s → Grown (length s.made) (bind_store dicts s p)
unfolding bind_store
grown_bound dicts s p h = grown_changed (is_reached_place s p) (bound dicts s) s h
    (λ o k. bound_of (length s.made) (operator_named dicts s o) o k)

abbrev StoreOf : ℕ → Outcome StoreValue → Type 0
StoreOf m (Goes t) = Grown m t
StoreOf m (Refuses name) = Unit {0}

of_bind_row : (os : List Obj) (s : StoreValue) (dicts : List ℕ) → Sound s →
    StoreOf (length s.made) (bind_row os s dicts)
of_bind_row (Array p true ∷ rest) s dicts h = grown_bound dicts s p h
of_bind_row (o ∷ rest) s dicts h = tt
of_bind_row [] s dicts h = tt

of_bind : (m : ℕ) (os : List Obj) (ls : List Level) (outcome : Outcome StoreValue) → Each (IsOf m) os →
    Each (IsLevelOf m) ls → StoreOf m outcome → FlowOf m (with_levels os ls outcome)
of_bind m os ls (Goes t) h g k = (k, (are_more m (length t.made) k.1 os h, levels_more m (length t.made) k.1 ls g, tt))
of_bind m os ls (Refuses name) h g k = tt

of_course : (s : StoreValue) (outcome : Outcome OperandsAndLevels) → Sound s → CourseOf (length s.made) outcome →
    FlowOf (length s.made) (with_store s outcome)
of_course s (Goes course) h k = ((h, omega arith), k)
of_course s (Refuses name) h k = tt

-- each operator on the execution stack leaves what is of the store
pub flow_of : (op : FlowOp) (os : List Obj) (ls : List Level) (s : StoreValue) (dicts : List ℕ) → Sound s →
    Each (IsOf (length s.made)) os → Each (IsLevelOf (length s.made)) ls →
    FlowOf (length s.made) (flow_row op os ls s dicts)
unfolding flow_row
flow_of Op.Exec os ls s dicts k h g = of_course s _ k (of_exec (length s.made) os ls h g)
flow_of Op.If os ls s dicts k h g = of_course s _ k (of_if (length s.made) os ls h g)
flow_of Op.Ifelse os ls s dicts k h g = of_course s _ k (of_ifelse (length s.made) os ls h g)
flow_of Op.For os ls s dicts k h g = of_course s _ k (of_for (length s.made) os ls h g)
flow_of Op.Repeat os ls s dicts k h g = of_course s _ k (of_repeat (length s.made) os ls h g)
flow_of Op.Loop os ls s dicts k h g = of_course s _ k (of_loop (length s.made) os ls h g)
flow_of Op.Forall os ls s dicts k h g = of_course s _ k (of_forall os ls s k h g)
flow_of Op.Exit os ls s dicts k h g = of_course s _ k
    (of_cut (length s.made) os (below_loop ls) h (of_below_loop (length s.made) ls g))
flow_of Op.Stop os ls s dicts k h g = of_course s _ k
    (of_cut (length s.made) os (below_stopped ls) h (of_below_stopped (length s.made) ls g))
flow_of Op.Stopped os ls s dicts k h g = of_course s _ k (of_stopped (length s.made) os ls k.1 h g)
flow_of Op.Bind os ls s dicts k h g = of_bind (length s.made) os ls (bind_row os s dicts) h g (of_bind_row os s dicts k)
