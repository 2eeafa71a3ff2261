use Rattle.std.proofs.Common.{◌≡◌, ◌-◌, ◌||◌, ℕ, true, false, Some, take, reverse, sym, ap, ◌∙◌, arith}
use Rattle.std.specs.List.{slice_get}
use Rattle.std.specs.Option.{option_copied}
use Rattle.ps_store.specs.KeyOf.{key_of}
use Rattle.ps_data_ops.specs.Dictionaries.{is_no_key, lacks_key}
use Rattle.ps_data_ops.proofs.InTurn.{lacking}
use Rattle.ps_data_ops.proofs.pairs.lacks_key.Goals as goal

pub returns-then-is_no_key : goal.returns-then-is_no_key
returns-then-is_no_key c =
    let s = c.args.store.now in
    let stack = c.args.stack.now in
    let left = c.loop-left.left in
    let found : slice_get stack (left - 1) ≡ Some c.in-Some.key.now = sym c.at.ensures
    ∙ ap option_copied c.in-Some.is in
    let none : is_no_key (key_of s c.in-Some.key.now) ≡ true = sym (ap is_no_key c.key_of.ensures)
    ∙ (sym c.is_no_key.ensures ∙ c.if-is_no_key.true) in
    sym (ap (λ b. b || lacks_key s (reverse (take (left - 2) stack))) none)
    ∙ (sym (lacking s stack left c.in-Some.key.now c.loop-left.invariant.0 c.loop-left-test.true found)
    ∙ c.loop-left.invariant.1)

pub loop-left-preserved : goal.loop-left-preserved
loop-left-preserved c =
    let s = c.args.store.now in
    let stack = c.args.stack.now in
    let left = c.loop-left.left in
    let found : slice_get stack (left - 1) ≡ Some c.in-Some.key.now = sym c.at.ensures
    ∙ ap option_copied c.in-Some.is in
    let some : is_no_key (key_of s c.in-Some.key.now) ≡ false = sym (ap is_no_key c.key_of.ensures)
    ∙ (sym c.is_no_key.ensures ∙ c.if-is_no_key.false) in
    let next : c.saturating_sub-left.result ≡ left - 2 = grind (arith, c.saturating_sub-left.ensures) in (
      omega (arith, next, c.loop-left.invariant.0),
      ap (λ (n : ℕ). lacks_key s (reverse (take n stack))) next
          ∙ (sym (lacking s stack left c.in-Some.key.now c.loop-left.invariant.0 c.loop-left-test.true found
          ∙ ap (λ b. b || lacks_key s (reverse (take (left - 2) stack))) some) ∙ c.loop-left.invariant.1),
    )

pub returns : goal.returns
returns c =
    let none : 0 ≡ c.loop-left.left = omega (arith, c.loop-left-test.false) in
    ap (λ (n : ℕ). lacks_key c.args.store.now (reverse (take n c.args.stack.now))) none ∙ c.loop-left.invariant.1
