-- The operators on the operand stack leave at most 500 operands.
use Rattle.std.specs.Prelude.{ℤ, pos, negsuc, ◌==◌, nat_lt, nat_le, int_lt, unsigned_abs, slice_get}
use Rattle.std.specs.Int.{int_rem_euclid}
use Rattle.std.specs.List.{position_from}
use Rattle.std.proofs.lemmas.Bool.{leb-true, leb-false}
use Rattle.std.proofs.lemmas.Bool.Decides.{eqb_tells}
use Rattle.std.proofs.lemmas.List.{length-append, length-drop, length-take}
use Rattle.std.proofs.Common.{ℕ, suc, ◌+◌, ◌≤◌, ◌<◌, List, [], ◌∷◌, ◌++◌, length, take, drop, Option, Some, None}
use Rattle.std.proofs.Common.{Result, inl, inr, arith}
use Rattle.press_fault.specs.declared.names.PsName.{PsName}
use Rattle.ps_store.specs.declared.obj.Obj.{Obj}
use Rattle.ps_store.specs.declared.obj.Obj.TheVariants.{Int, Text, Array, Dict}
use Rattle.ps_store.specs.declared.oper.StackOp.{StackOp}
use Rattle.ps_store.specs.declared.oper.StackOp.TheVariants.{Pop, Exch, Dup, Clear, Count, Copy, Index, Roll, Mark}
use Rattle.ps_store.specs.declared.oper.StackOp.TheVariants.{OpenArray, OpenDict, Cleartomark, Counttomark, Add, Sub}
use Rattle.ps_store.specs.declared.oper.StackOp.TheVariants.{Mul, Div, Idiv, Mod, Neg, Abs, Ceiling, Floor, Round}
use Rattle.ps_store.specs.declared.oper.StackOp.TheVariants.{Truncate, Sqrt, Sin, Cos, Cvi, Cvr, Eq, Ne, Gt, Ge, Lt, Le}
use Rattle.ps_store.specs.declared.oper.StackOp.TheVariants.{And, Or, Xor, Not, Bitshift}
use Rattle.ps_store.specs.Store.{StoreValue}
use Rattle.ps_store.specs.Desk.{OperandsAndStore}
use Rattle.ps_store.specs.Stack.{rolled, is_mark}
use Rattle.ps_store.specs.Outcome.{Outcome, Goes, Refuses, pushed}
use Rattle.ps_stack_ops.specs.Rows.{of_one, of_two, pop_row, exch_row, dup_row, on_operands, copied, again, index_row}
use Rattle.ps_stack_ops.specs.Rows.{turned, roll_row, copy_row, with_operands, entries_copied, cleared, cleartomark_row}
use Rattle.ps_stack_ops.specs.Rows.{counted, counttomark_row, stack_row}
use Rattle.ps_stack_ops.specs.Comparison.{eq_value, ne_value}
use Rattle.ps_laws.proofs.Operands.{Few, by_test, few_pushed, few_with_value}

-- an operator that goes on leaves at most 500 operands
abbrev pub FewOfDesk : Outcome OperandsAndStore → Type 0
FewOfDesk (Goes desk) = length desk.operands ≤ 500
FewOfDesk (Refuses name) = Unit {0}

few_on : (store : StoreValue) (outcome : Outcome (List Obj)) → Few outcome → FewOfDesk (on_operands store outcome)
few_on store (Goes operands) h = h
few_on store (Refuses name) h = tt

few_of_one : (value : Obj → Result Obj PsName) (operands : List Obj) → length operands ≤ 500 →
    Few (of_one value operands)
few_of_one value (a ∷ rest) h = few_with_value (value a) rest (omega arith)
few_of_one value [] h = tt

few_of_two : (value : Obj → Obj → Result Obj PsName) (operands : List Obj) → length operands ≤ 500 →
    Few (of_two value operands)
few_of_two value (b ∷ a ∷ rest) h = few_with_value (value a b) rest (omega arith)
few_of_two value (b ∷ []) h = tt
few_of_two value [] h = tt

few_pop : (operands : List Obj) → length operands ≤ 500 → Few (pop_row operands)
few_pop (a ∷ rest) h = omega arith
few_pop [] h = tt

few_exch : (operands : List Obj) → length operands ≤ 500 → Few (exch_row operands)
few_exch (b ∷ a ∷ rest) h = omega arith
few_exch (b ∷ []) h = tt
few_exch [] h = tt

few_dup : (operands : List Obj) → length operands ≤ 500 → Few (dup_row operands)
few_dup (a ∷ rest) h = few_pushed a (a ∷ rest)
few_dup [] h = tt

few_copied : (n : ℤ) (operands : List Obj) → length operands ≤ 500 → Few (copied n operands)
few_copied n operands h = by_test Few (int_lt n (pos 0)) _ _ (λ e. tt) (λ e.
    by_test Few (nat_lt (length operands) (unsigned_abs n)) _ _ (λ e. tt) (λ e.
    by_test Few (nat_le (length operands + unsigned_abs n) 500) (Goes (take (unsigned_abs n) operands ++ operands)) _
    (λ e. let fits = leb-true (length operands + unsigned_abs n) 500 e in
    let l = length-append (take (unsigned_abs n) operands) operands in
    let t = length-take (unsigned_abs n) operands in omega arith) (λ e. tt)))

few_again : (o : Option Obj) (operands : List Obj) → length operands < 500 → Few (again o operands)
few_again (Some o) operands h = omega arith
few_again None operands h = tt

few_index : (operands : List Obj) → length operands ≤ 500 → Few (index_row operands)
few_index (Int n ∷ rest) h = by_test Few (int_lt n (pos 0)) _ _ (λ e. tt)
    (λ e. few_again (slice_get rest (unsigned_abs n)) rest (omega arith))
few_index (a ∷ rest) h = tt
few_index [] h = tt

remainder_below : (z : ℤ) (n : ℕ) → 0 < n → unsigned_abs (int_rem_euclid z (pos n)) < n
remainder_below (pos a) n h = omega arith
remainder_below (negsuc a) n h = omega arith

few_rolled : (n j : ℕ) (operands : List Obj) → n ≤ length operands → j ≤ n →
    length (rolled n j operands) ≤ length operands
few_rolled n j operands h k =
    let a = length-append (drop j (take n operands)) (take j operands ++ drop n operands) in
    let b = length-append (take j operands) (drop n operands) in
    let c = length-drop j (take n operands) in
    let d = length-take n operands in
    let e = length-take j operands in
    let f = length-drop n operands in
    omega arith

few_turned : (n : ℕ) (j : ℤ) (operands : List Obj) → n ≤ length operands → length operands ≤ 500 →
    length (turned n j operands) ≤ 500
few_turned n j operands h k = by_test (λ (os : List Obj). length os ≤ 500) (n == 0) operands _ (λ e. k)
    (λ e. elim (eqb_tells n 0) as (λ t. length (rolled n (unsigned_abs (int_rem_euclid j (pos n))) operands) ≤ 500) [
      | inl t ↦ absurd (let f = t.0 in cc)
      | inr t ↦ let g = t.1 in
          let r = remainder_below j n (omega arith) in
          let f = few_rolled n (unsigned_abs (int_rem_euclid j (pos n))) operands h (omega arith) in omega arith
    ])

few_roll : (operands : List Obj) → length operands ≤ 500 → Few (roll_row operands)
few_roll (Int j ∷ Int n ∷ rest) h = by_test Few (int_lt n (pos 0)) _ _ (λ e. tt) (λ e.
    by_test Few (nat_lt (length rest) (unsigned_abs n)) _ (Goes (turned (unsigned_abs n) j rest)) (λ e. tt)
    (λ e. few_turned (unsigned_abs n) j rest (let g = leb-false (suc (length rest)) (unsigned_abs n) e in omega arith)
    (omega arith)))
few_roll (b ∷ a ∷ rest) h = tt
few_roll operands h = tt

few_entries : (operands : List Obj) (outcome : Outcome StoreValue) → length operands ≤ 500 →
    FewOfDesk (with_operands operands outcome)
few_entries operands (Goes store) h = h
few_entries operands (Refuses name) h = tt

few_copy : (operands : List Obj) (s : StoreValue) → length operands ≤ 500 → FewOfDesk (copy_row operands s)
few_copy (Int n ∷ rest) s h = few_on s (copied n rest) (few_copied n rest (omega arith))
few_copy (Array b y ∷ Array a x ∷ rest) s h =
    by_test FewOfDesk (nat_lt b.len a.len) _ (Goes _) (λ e. tt) (λ e. omega arith)
few_copy (Text b ∷ Text a ∷ rest) s h = by_test FewOfDesk (nat_lt b.len a.len) _ (Goes _) (λ e. tt) (λ e. omega arith)
few_copy (Dict b ∷ Dict a ∷ rest) s h = few_entries (Dict b ∷ rest) (entries_copied s a b) (omega arith)
few_copy (Array b y ∷ []) s h = tt
few_copy (Text b ∷ []) s h = tt
few_copy (Dict b ∷ []) s h = tt
few_copy (b ∷ rest) s h = tt
few_copy [] s h = tt

few_cleared : (depth : Option ℕ) (operands : List Obj) → length operands ≤ 500 → Few (cleared depth operands)
few_cleared (Some depth) operands h = let l = length-drop (depth + 1) operands in omega arith
few_cleared None operands h = tt

few_counted : (depth : Option ℕ) (operands : List Obj) → Few (counted depth operands)
few_counted (Some depth) operands = few_pushed (Int (pos depth)) operands
few_counted None operands = tt

few_one : (store : StoreValue) (value : Obj → Result Obj PsName) (operands : List Obj) → length operands ≤ 500 →
    FewOfDesk (on_operands store (of_one value operands))
few_one store value operands h = few_on store (of_one value operands) (few_of_one value operands h)

few_two : (store : StoreValue) (value : Obj → Obj → Result Obj PsName) (operands : List Obj) → length operands ≤ 500 →
    FewOfDesk (on_operands store (of_two value operands))
few_two store value operands h = few_on store (of_two value operands) (few_of_two value operands h)

few_push : (store : StoreValue) (o : Obj) (operands : List Obj) → FewOfDesk (on_operands store (pushed o operands))
few_push store o operands = few_on store (pushed o operands) (few_pushed o operands)

-- each operator on the operand stack leaves at most 500 operands
pub stack_few : (op : StackOp) (operands : List Obj) (store : StoreValue) → length operands ≤ 500 →
    FewOfDesk (stack_row op operands store)
unfolding stack_row
stack_few Pop os s h = few_on s (pop_row os) (few_pop os h)
stack_few Exch os s h = few_on s (exch_row os) (few_exch os h)
stack_few Dup os s h = few_on s (dup_row os) (few_dup os h)
stack_few Clear os s h = omega arith
stack_few Count os s h = few_push s _ os
stack_few Copy os s h = few_copy os s h
stack_few Index os s h = few_on s (index_row os) (few_index os h)
stack_few Roll os s h = few_on s (roll_row os) (few_roll os h)
stack_few Mark os s h = few_push s _ os
stack_few OpenArray os s h = few_push s _ os
stack_few OpenDict os s h = few_push s _ os
stack_few Cleartomark os s h = few_on s (cleartomark_row os) (few_cleared (position_from is_mark 0 os) os h)
stack_few Counttomark os s h = few_on s (counttomark_row os) (few_counted (position_from is_mark 0 os) os)
stack_few Add os s h = few_two s _ os h
stack_few Sub os s h = few_two s _ os h
stack_few Mul os s h = few_two s _ os h
stack_few Div os s h = few_two s _ os h
stack_few Idiv os s h = few_two s _ os h
stack_few Mod os s h = few_two s _ os h
stack_few Neg os s h = few_one s _ os h
stack_few Abs os s h = few_one s _ os h
stack_few Ceiling os s h = few_one s _ os h
stack_few Floor os s h = few_one s _ os h
stack_few Round os s h = few_one s _ os h
stack_few Truncate os s h = few_one s _ os h
stack_few Sqrt os s h = few_one s _ os h
stack_few Sin os s h = few_one s _ os h
stack_few Cos os s h = few_one s _ os h
stack_few Cvi os s h = few_one s _ os h
stack_few Cvr os s h = few_one s _ os h
stack_few Eq os s h = few_two s (eq_value s) os h
stack_few Ne os s h = few_two s (ne_value s) os h
stack_few Gt os s h = few_two s _ os h
stack_few Ge os s h = few_two s _ os h
stack_few Lt os s h = few_two s _ os h
stack_few Le os s h = few_two s _ os h
stack_few And os s h = few_two s _ os h
stack_few Or os s h = few_two s _ os h
stack_few Xor os s h = few_two s _ os h
stack_few Not os s h = few_one s _ os h
stack_few Bitshift os s h = few_two s _ os h
