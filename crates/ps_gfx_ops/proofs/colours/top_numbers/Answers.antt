use Rattle.std.proofs.Common.{arith, ◌≡◌, ◌∙◌, ◌≤◌, ◌<◌, ◌+◌, ◌-◌, ◌++◌, ℕ, ap, sym, List, [], ◌∷◌, length, take}
use Rattle.std.proofs.Common.{length-append, reverse, Some, None, Result, Err, if◌then◌else◌}
use Rattle.std.specs.Prelude.{ℤ}
use Rattle.std.proofs.lemmas.Bool.{le-ltb}
use Rattle.press_fault.specs.declared.names.PsName.{PsName}
use Rattle.press_fault.specs.declared.names.PsName.TheVariants.{StackUnderflow, TypeCheck}
use Rattle.ps_store.specs.declared.obj.Obj.{Obj}
use Rattle.ps_gfx_ops.specs.Points.{numbers_or_type, top_numbers}
use Rattle.ps_gfx_ops.proofs.TopNumbers.{after_found, number_at, found_more, found_none}
use Rattle.ps_gfx_ops.proofs.colours.top_numbers.Goals as goal

-- the deepest operand that is left is a number
more : (found : List ℤ) (n : ℤ) (left : ℕ) (operands : List Obj) (whole : Result (List ℤ) PsName) → 0 < left →
    left ≤ length operands → Some n ≡ number_at operands (left - 1) →
    after_found found (numbers_or_type (reverse (take left operands))) ≡ whole →
    after_found (found ++ n ∷ []) (numbers_or_type (reverse (take (left - 1) operands))) ≡ whole
more found n left operands whole some within is so_far =
    let back : left - 1 + 1 ≡ left = omega arith in
    found_more found n (left - 1) operands (omega arith) is
    ∙ ap (λ k. after_found found (numbers_or_type (reverse (take k operands)))) back
    ∙ so_far

counted : (found : List ℤ) (n : ℤ) (left count : ℕ) → 0 < left → length found + left ≡ count →
    length (found ++ n ∷ []) + (left - 1) ≡ count
counted found n left count some each = omega (arith, length-append found (n ∷ []))

-- it is none
none : (found : List ℤ) (left count : ℕ) (operands : List Obj) → 0 < left → left ≤ length operands →
    count ≤ length operands → None ≡ number_at operands (left - 1) →
    after_found found (numbers_or_type (reverse (take left operands)))
    ≡ numbers_or_type (reverse (take count operands)) → Err TypeCheck ≡ top_numbers count operands
none found left count operands some within enough is so_far =
    let back : left - 1 + 1 ≡ left = omega arith in
    sym (found_none found (left - 1) operands (omega arith) is)
    ∙ ap (λ k. after_found found (numbers_or_type (reverse (take k operands)))) back
    ∙ so_far
    ∙ ap (λ b. if b then Err StackUnderflow else numbers_or_type (reverse (take count operands)))
    (sym (le-ltb (length operands) count enough))

pub loop-left-preserved : goal.loop-left-preserved
loop-left-preserved c =
    let before = c.loop-left.invariant in record {
      so_far = rw c.push.ensures (more c.loop-left.numbers c.in-Some.n c.loop-left.left c.args.stack.now
          (numbers_or_type (reverse (take c.args.count c.args.stack.now))) c.loop-left-test.true
          (omega (arith, before.each, before.enough)) c.in-Some.ensures before.so_far);
      each = rw c.push.ensures (counted c.loop-left.numbers c.in-Some.n c.loop-left.left c.args.count
          c.loop-left-test.true before.each);
      enough = before.enough;
    }

pub returns-in-None-clause-value : goal.returns-in-None-clause-value
returns-in-None-clause-value c =
    let before = c.loop-left.invariant in
    none c.loop-left.numbers c.loop-left.left c.args.count c.args.stack.now c.loop-left-test.true
    (omega (arith, before.each, before.enough)) before.enough c.in-None.ensures before.so_far
