-- The operators on the operand stack leave what is of the store.
use Rattle.std.specs.Prelude.{ℤ, pos, ◌==◌, nat_lt, nat_le, int_lt, unsigned_abs, slice_get}
use Rattle.std.specs.Int.{int_rem_euclid}
use Rattle.std.specs.List.{position_from}
use Rattle.std.proofs.Common.{ℕ, ◌+◌, List, [], ◌∷◌, ◌++◌, length, take, drop, Option, Some, None, Result, Ok, Err}
use Rattle.std.proofs.Common.{arith}
use Rattle.press_fault.specs.declared.names.PsName.{PsName}
use Rattle.ps_store.specs.declared.obj.Obj.{Obj}
use Rattle.ps_store.specs.declared.obj.Obj.TheVariants.{Mark as AMark, Int, Text, Array, Dict}
use Rattle.ps_store.specs.declared.oper.StackOp.{StackOp}
use Rattle.ps_store.specs.declared.oper.StackOp.TheVariants.{Pop, Exch, Dup, Clear, Count, Copy, Index, Roll, Mark}
use Rattle.ps_store.specs.declared.oper.StackOp.TheVariants.{OpenArray, OpenDict, Cleartomark, Counttomark, Add, Sub}
use Rattle.ps_store.specs.declared.oper.StackOp.TheVariants.{Mul, Div, Idiv, Mod, Neg, Abs, Ceiling, Floor, Round}
use Rattle.ps_store.specs.declared.oper.StackOp.TheVariants.{Truncate, Sqrt, Sin, Cos, Cvi, Cvr, Eq, Ne, Gt, Ge, Lt, Le}
use Rattle.ps_store.specs.declared.oper.StackOp.TheVariants.{And, Or, Xor, Not, Bitshift}
use Rattle.ps_store.specs.Store.{StoreValue}
use Rattle.ps_store.specs.Desk.{OperandsAndStore}
use Rattle.ps_store.specs.Copying.{copied_entries}
use Rattle.ps_store.specs.Stack.{rolled, is_mark}
use Rattle.ps_store.specs.Outcome.{Outcome, Goes, Refuses, pushed, with_value}
use Rattle.ps_stack_ops.specs.Rows.{of_one, of_two, pop_row, exch_row, dup_row, on_operands, copied, again, index_row}
use Rattle.ps_stack_ops.specs.Rows.{turned, roll_row, or_limit, copy_row, with_operands, entries_copied, cleared}
use Rattle.ps_stack_ops.specs.Rows.{cleartomark_row, counted, counttomark_row, stack_row}
use Rattle.ps_stack_ops.specs.Comparison.{order_of, eq_value, ne_value, gt_value, ge_value, lt_value, le_value}
use Rattle.ps_laws.specs.Stored.{Each, IsOf}
use Rattle.ps_laws.proofs.Operands.{by_test}
use Rattle.ps_laws.proofs.Each.{Sound, Grown, OfSome, each_append, each_take, each_drop, each_get, are_more}
use Rattle.ps_laws.proofs.Each.{grown_copied, grown_entries}
use Rattle.ps_laws.proofs.Values.{IsPlain, plain_add, plain_sub, plain_mul, plain_div, plain_idiv, plain_mod, plain_neg}
use Rattle.ps_laws.proofs.Values.{plain_abs, plain_ceiling, plain_floor, plain_round, plain_truncate, plain_sqrt}
use Rattle.ps_laws.proofs.Values.{plain_sin, plain_cos, plain_cvi, plain_cvr, plain_tested, plain_and, plain_or}
use Rattle.ps_laws.proofs.Values.{plain_xor, plain_not, plain_bitshift}

-- the operands are of a store of m composites
abbrev pub AreOf : ℕ → Outcome (List Obj) → Type 0
AreOf m (Goes operands) = Each (IsOf m) operands
AreOf m (Refuses name) = Unit {0}

-- the store has lost none, and the operands are of it
abbrev pub DeskOf : ℕ → Outcome OperandsAndStore → Type 0
DeskOf m (Goes desk) = Grown m desk.store × Each (IsOf (length desk.store.made)) desk.operands
DeskOf m (Refuses name) = Unit {0}

-- an object of the store that is pushed leaves operands of the store
pub of_pushed : (m : ℕ) (o : Obj) (operands : List Obj) → IsOf m o → Each (IsOf m) operands →
    AreOf m (pushed o operands)
of_pushed m o operands h k = by_test (AreOf m) (nat_lt (length operands) 500) (Goes (o ∷ operands)) _ (λ e. (h, k))
    (λ e. tt)

of_value : (m : ℕ) (value : Result Obj PsName) (rest : List Obj) → IsPlain m value → Each (IsOf m) rest →
    AreOf m (with_value value rest)
of_value m (Ok o) rest h k = (h, k)
of_value m (Err name) rest h k = tt

on_desk : (s : StoreValue) (outcome : Outcome (List Obj)) → Sound s → AreOf (length s.made) outcome →
    DeskOf (length s.made) (on_operands s outcome)
on_desk s (Goes operands) h k = ((h, omega arith), k)
on_desk s (Refuses name) h k = tt

of_one_is : (m : ℕ) (value : Obj → Result Obj PsName) (operands : List Obj) → ((a : Obj) → IsPlain m (value a)) →
    Each (IsOf m) operands → AreOf m (of_one value operands)
of_one_is m value (a ∷ rest) plain h = of_value m (value a) rest (plain a) h.1
of_one_is m value [] plain h = tt

of_two_is : (m : ℕ) (value : Obj → Obj → Result Obj PsName) (operands : List Obj) →
    ((a b : Obj) → IsPlain m (value a b)) → Each (IsOf m) operands → AreOf m (of_two value operands)
of_two_is m value (b ∷ a ∷ rest) plain h = of_value m (value a b) rest (plain a b) h.1.1
of_two_is m value operands plain h = tt

of_pop : (m : ℕ) (operands : List Obj) → Each (IsOf m) operands → AreOf m (pop_row operands)
of_pop m (a ∷ rest) h = h.1
of_pop m [] h = tt

of_exch : (m : ℕ) (operands : List Obj) → Each (IsOf m) operands → AreOf m (exch_row operands)
of_exch m (b ∷ a ∷ rest) h = (h.1.0, (h.0, h.1.1))
of_exch m operands h = tt

of_dup : (m : ℕ) (operands : List Obj) → Each (IsOf m) operands → AreOf m (dup_row operands)
of_dup m (a ∷ rest) h = of_pushed m a (a ∷ rest) h.0 h
of_dup m [] h = tt

of_copied : (m : ℕ) (n : ℤ) (operands : List Obj) → Each (IsOf m) operands → AreOf m (copied n operands)
of_copied m n operands h = by_test (AreOf m) (int_lt n (pos 0)) _ _ (λ e. tt) (λ e.
    by_test (AreOf m) (nat_lt (length operands) (unsigned_abs n)) _ _ (λ e. tt) (λ e.
    by_test (AreOf m) (nat_le (length operands + unsigned_abs n) 500)
    (Goes (take (unsigned_abs n) operands ++ operands)) _
    (λ e. each_append (IsOf m) (take (unsigned_abs n) operands) operands
    (each_take (IsOf m) (unsigned_abs n) operands h) h) (λ e. tt)))

of_again : (m : ℕ) (o : Option Obj) (operands : List Obj) → OfSome (IsOf m) o → Each (IsOf m) operands →
    AreOf m (again o operands)
of_again m (Some o) operands h k = (h, k)
of_again m None operands h k = tt

of_index : (m : ℕ) (operands : List Obj) → Each (IsOf m) operands → AreOf m (index_row operands)
of_index m (Int n ∷ rest) h = by_test (AreOf m) (int_lt n (pos 0)) _ _ (λ e. tt)
    (λ e. of_again m (slice_get rest (unsigned_abs n)) rest (each_get (IsOf m) rest (unsigned_abs n) h.1) h.1)
of_index m (a ∷ rest) h = tt
of_index m [] h = tt

of_rolled : (m n j : ℕ) (operands : List Obj) → Each (IsOf m) operands → Each (IsOf m) (rolled n j operands)
of_rolled m n j operands h = each_append (IsOf m) (drop j (take n operands)) (take j operands ++ drop n operands)
    (each_drop (IsOf m) j (take n operands) (each_take (IsOf m) n operands h))
    (each_append (IsOf m) (take j operands) (drop n operands) (each_take (IsOf m) j operands h)
    (each_drop (IsOf m) n operands h))

of_turned : (m n : ℕ) (j : ℤ) (operands : List Obj) → Each (IsOf m) operands → Each (IsOf m) (turned n j operands)
of_turned m n j operands h = by_test (Each (IsOf m)) (n == 0) operands
    (rolled n (unsigned_abs (int_rem_euclid j (pos n))) operands) (λ e. h)
    (λ e. of_rolled m n (unsigned_abs (int_rem_euclid j (pos n))) operands h)

of_roll : (m : ℕ) (operands : List Obj) → Each (IsOf m) operands → AreOf m (roll_row operands)
of_roll m (Int j ∷ Int n ∷ rest) h = by_test (AreOf m) (int_lt n (pos 0)) _ _ (λ e. tt) (λ e.
    by_test (AreOf m) (nat_lt (length rest) (unsigned_abs n)) _ (Goes (turned (unsigned_abs n) j rest)) (λ e. tt)
    (λ e. of_turned m (unsigned_abs n) j rest h.1.1))
of_roll m (b ∷ a ∷ rest) h = tt
of_roll m operands h = tt

of_limit : (m : ℕ) (operands : List Obj) (t : Option StoreValue) → OfSome (Grown m) t → Each (IsOf m) operands →
    DeskOf m (with_operands operands (or_limit t))
of_limit m operands (Some t) h k = (h, are_more m (length t.made) h.1 operands k)
of_limit m operands None h k = tt

of_entries : (s : StoreValue) (from to : ℕ) (operands : List Obj) → Sound s → Each (IsOf (length s.made)) operands →
    DeskOf (length s.made) (with_operands operands (entries_copied s from to))
of_entries s from to operands h k = by_test
    (λ (o : Outcome StoreValue). DeskOf (length s.made) (with_operands operands o)) (to == 0) (Refuses _)
    (or_limit (copied_entries s from to)) (λ e. tt)
    (λ e. of_limit (length s.made) operands (copied_entries s from to) (grown_entries s from to h) k)

of_copy : (operands : List Obj) (s : StoreValue) → Sound s → Each (IsOf (length s.made)) operands →
    DeskOf (length s.made) (copy_row operands s)
of_copy (Int n ∷ rest) s h k = on_desk s (copied n rest) h (of_copied (length s.made) n rest k.1)
of_copy (Array b y ∷ Array a x ∷ rest) s h k =
    by_test (DeskOf (length s.made)) (nat_lt b.len a.len) _ (Goes _) (λ e. tt)
    (λ e. let g = grown_copied s a b h in (g, (let l = k.0 in omega arith, are_more (length s.made) _ g.1 rest k.1.1)))
of_copy (Text b ∷ Text a ∷ rest) s h k = by_test (DeskOf (length s.made)) (nat_lt b.len a.len) _ (Goes _) (λ e. tt)
    (λ e. let g = grown_copied s a b h in (g, (let l = k.0 in omega arith, are_more (length s.made) _ g.1 rest k.1.1)))
of_copy (Dict b ∷ Dict a ∷ rest) s h k = of_entries s a b (Dict b ∷ rest) h (k.0, k.1.1)
of_copy (Array b y ∷ []) s h k = tt
of_copy (Text b ∷ []) s h k = tt
of_copy (Dict b ∷ []) s h k = tt
of_copy (b ∷ rest) s h k = tt
of_copy [] s h k = tt

of_cleared : (m : ℕ) (depth : Option ℕ) (operands : List Obj) → Each (IsOf m) operands →
    AreOf m (cleared depth operands)
of_cleared m (Some depth) operands h = each_drop (IsOf m) (depth + 1) operands h
of_cleared m None operands h = tt

of_counted : (m : ℕ) (depth : Option ℕ) (operands : List Obj) → Each (IsOf m) operands →
    AreOf m (counted depth operands)
of_counted m (Some depth) operands h = of_pushed m (Int (pos depth)) operands tt h
of_counted m None operands h = tt

one_of : (s : StoreValue) (value : Obj → Result Obj PsName) (operands : List Obj) →
    ((a : Obj) → IsPlain (length s.made) (value a)) → Sound s → Each (IsOf (length s.made)) operands →
    DeskOf (length s.made) (on_operands s (of_one value operands))
one_of s value operands plain h k = on_desk s (of_one value operands) h
    (of_one_is (length s.made) value operands plain k)

two_of : (s : StoreValue) (value : Obj → Obj → Result Obj PsName) (operands : List Obj) →
    ((a b : Obj) → IsPlain (length s.made) (value a b)) → Sound s → Each (IsOf (length s.made)) operands →
    DeskOf (length s.made) (on_operands s (of_two value operands))
two_of s value operands plain h k = on_desk s (of_two value operands) h
    (of_two_is (length s.made) value operands plain k)

push_of : (s : StoreValue) (o : Obj) (operands : List Obj) → IsOf (length s.made) o → Sound s →
    Each (IsOf (length s.made)) operands → DeskOf (length s.made) (on_operands s (pushed o operands))
push_of s o operands f h k = on_desk s (pushed o operands) h (of_pushed (length s.made) o operands f k)

-- each operator on the operand stack leaves what is of the store
pub stack_of : (op : StackOp) (os : List Obj) (s : StoreValue) → Sound s → Each (IsOf (length s.made)) os →
    DeskOf (length s.made) (stack_row op os s)
unfolding stack_row
stack_of Pop os s h k = on_desk s (pop_row os) h (of_pop (length s.made) os k)
stack_of Exch os s h k = on_desk s (exch_row os) h (of_exch (length s.made) os k)
stack_of Dup os s h k = on_desk s (dup_row os) h (of_dup (length s.made) os k)
stack_of Clear os s h k = ((h, omega arith), tt)
stack_of Count os s h k = push_of s (Int (pos (length os))) os tt h k
stack_of Copy os s h k = of_copy os s h k
stack_of Index os s h k = on_desk s (index_row os) h (of_index (length s.made) os k)
stack_of Roll os s h k = on_desk s (roll_row os) h (of_roll (length s.made) os k)
stack_of Mark os s h k = push_of s AMark os tt h k
stack_of OpenArray os s h k = push_of s AMark os tt h k
stack_of OpenDict os s h k = push_of s AMark os tt h k
stack_of Cleartomark os s h k = on_desk s (cleartomark_row os) h
    (of_cleared (length s.made) (position_from is_mark 0 os) os k)
stack_of Counttomark os s h k = on_desk s (counttomark_row os) h
    (of_counted (length s.made) (position_from is_mark 0 os) os k)
stack_of Add os s h k = two_of s _ os (plain_add (length s.made)) h k
stack_of Sub os s h k = two_of s _ os (plain_sub (length s.made)) h k
stack_of Mul os s h k = two_of s _ os (plain_mul (length s.made)) h k
stack_of Div os s h k = two_of s _ os (plain_div (length s.made)) h k
stack_of Idiv os s h k = two_of s _ os (plain_idiv (length s.made)) h k
stack_of Mod os s h k = two_of s _ os (plain_mod (length s.made)) h k
stack_of Neg os s h k = one_of s _ os (plain_neg (length s.made)) h k
stack_of Abs os s h k = one_of s _ os (plain_abs (length s.made)) h k
stack_of Ceiling os s h k = one_of s _ os (plain_ceiling (length s.made)) h k
stack_of Floor os s h k = one_of s _ os (plain_floor (length s.made)) h k
stack_of Round os s h k = one_of s _ os (plain_round (length s.made)) h k
stack_of Truncate os s h k = one_of s _ os (plain_truncate (length s.made)) h k
stack_of Sqrt os s h k = one_of s _ os (plain_sqrt (length s.made)) h k
stack_of Sin os s h k = one_of s _ os (plain_sin (length s.made)) h k
stack_of Cos os s h k = one_of s _ os (plain_cos (length s.made)) h k
stack_of Cvi os s h k = one_of s _ os (plain_cvi (length s.made)) h k
stack_of Cvr os s h k = one_of s _ os (plain_cvr (length s.made)) h k
stack_of Eq os s h k = two_of s (eq_value s) os (λ a b. tt) h k
stack_of Ne os s h k = two_of s (ne_value s) os (λ a b. tt) h k
stack_of Gt os s h k = two_of s (gt_value s) os (λ a b. plain_tested (length s.made) _ (order_of s a b)) h k
stack_of Ge os s h k = two_of s (ge_value s) os (λ a b. plain_tested (length s.made) _ (order_of s a b)) h k
stack_of Lt os s h k = two_of s (lt_value s) os (λ a b. plain_tested (length s.made) _ (order_of s a b)) h k
stack_of Le os s h k = two_of s (le_value s) os (λ a b. plain_tested (length s.made) _ (order_of s a b)) h k
stack_of And os s h k = two_of s _ os (plain_and (length s.made)) h k
stack_of Or os s h k = two_of s _ os (plain_or (length s.made)) h k
stack_of Xor os s h k = two_of s _ os (plain_xor (length s.made)) h k
stack_of Not os s h k = one_of s _ os (plain_not (length s.made)) h k
stack_of Bitshift os s h k = two_of s _ os (plain_bitshift (length s.made)) h k
