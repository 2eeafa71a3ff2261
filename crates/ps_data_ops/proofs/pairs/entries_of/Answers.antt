use Rattle.std.proofs.Common.{◌≡◌, ◌+◌, ◌-◌, ℕ, Some, Ok, Err, length, take, reverse, sym, ap, ◌∙◌, arith, subst}
use Rattle.std.specs.List.{slice_get}
use Rattle.std.specs.Option.{option_copied}
use Rattle.indexmap.specs.IndexMap.{insert_entry}
use Rattle.ps_store.specs.Keys.{same_key}
use Rattle.ps_store.specs.KeyOf.{key_of}
use Rattle.ps_data_ops.specs.Dictionaries.{entered, with_pair, and_then}
use Rattle.ps_data_ops.proofs.InTurn.{pair_entered, length_more}
use Rattle.ps_data_ops.proofs.pairs.entries_of.Goals as goal

pub returns-in_default-key_of : goal.returns-in_default-key_of
returns-in_default-key_of c =
    let s = c.args.store.now in
    let stack = c.args.stack.now in
    let entries = c.loop-left.entries in
    let left = c.loop-left.left in
    let k = left - 2 in
    let value = c.in-Some-at.value.now in
    let place : left - 1 ≡ k + 1 = omega (arith, c.loop-left-test.true) in
    let all : left ≡ k + 2 = omega (arith, c.loop-left-test.true) in
    let first : slice_get stack (k + 1) ≡ Some c.in-Some.key.now =
    subst (λ (n : ℕ). slice_get stack n ≡ Some c.in-Some.key.now) place
    (sym c.at.ensures ∙ ap option_copied c.in-Some.is) in
    let second : slice_get stack k ≡ Some value = sym c.at-in-loop-left.ensures ∙ ap option_copied c.in-Some-at.is in
    let no_name : key_of s c.in-Some.key.now ≡ Err c.in_default-key_of.field-0 =
    ap (λ t. key_of t c.in-Some.key.now) (sym c.loop-left.invariant.store)
    ∙ (sym c.key_of.ensures ∙ c.in_default-key_of.is) in
    record {
      entries =
          sym (ap (λ key. and_then (with_pair entries key value) (λ more. entered s more (reverse (take k stack))))
          no_name)
          ∙ (sym (ap (λ (n : ℕ). entered s entries (reverse (take n stack))) all
          ∙ pair_entered s entries stack k c.in-Some.key.now value first second)
          ∙ c.loop-left.invariant.same);
      store = c.loop-left.invariant.store;
    }

pub loop-left-preserved : goal.loop-left-preserved
loop-left-preserved c =
    let s = c.args.store.now in
    let stack = c.args.stack.now in
    let entries = c.loop-left.entries in
    let left = c.loop-left.left in
    let k = left - 2 in
    let value = c.in-Some-at.value.now in
    let place : left - 1 ≡ k + 1 = omega (arith, c.loop-left-test.true) in
    let all : left ≡ k + 2 = omega (arith, c.loop-left-test.true) in
    let first : slice_get stack (k + 1) ≡ Some c.in-Some.key.now =
    subst (λ (n : ℕ). slice_get stack n ≡ Some c.in-Some.key.now) place
    (sym c.at.ensures ∙ ap option_copied c.in-Some.is) in
    let second : slice_get stack k ≡ Some value = sym c.at-in-loop-left.ensures ∙ ap option_copied c.in-Some-at.is in
    let named : key_of s c.in-Some.key.now ≡ Ok c.in-Ok.key =
    ap (λ t. key_of t c.in-Some.key.now) (sym c.loop-left.invariant.store) ∙ (sym c.key_of.ensures ∙ c.in-Ok.is) in
    let more : c.define.new.self ≡ insert_entry same_key entries c.in-Ok.key value =
    c.in_ok-define.ensures.ok
    ∙ (ap (λ made. insert_entry same_key entries made c.again.result) c.in_ok-made.ensures.ok
    ∙ ap (insert_entry same_key entries c.in-Ok.key) c.again.ensures) in
    let long : length c.define.new.self ≡ length (insert_entry same_key entries c.in-Ok.key value) = ap length more in
    record {
      held = omega (arith, c.loop-left.invariant.held);
      small = omega (arith, all, long, length_more same_key entries c.in-Ok.key value, c.loop-left.invariant.small);
      same =
          ap (λ es. entered s es (reverse (take k stack))) more
          ∙ (sym (ap (λ key. and_then (with_pair entries key value) (λ es. entered s es (reverse (take k stack))))
          named)
          ∙ (sym (ap (λ (n : ℕ). entered s entries (reverse (take n stack))) all
          ∙ pair_entered s entries stack k c.in-Some.key.now value first second)
          ∙ c.loop-left.invariant.same));
      store = c.in_ok-made.ensures.same ∙ c.loop-left.invariant.store;
    }
