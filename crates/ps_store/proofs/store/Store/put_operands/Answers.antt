use Rattle.std.proofs.Common.{◌≡◌, ◌≤◌, ◌+◌, ◌-◌, Some, length, drop, take, reverse, sym, ap, ◌∙◌, arith}
use Rattle.std.specs.List.{slice_get}
use Rattle.std.specs.Option.{option_copied}
use Rattle.ps_store.specs.Parts.{PartValue}
use Rattle.ps_store.specs.Gathering.{with_elements}
use Rattle.ps_store.proofs.Gathered.{next_operand}
use Rattle.ps_store.proofs.store.Store.put_operands.Goals as goal

pub loop-at-preserved : goal.loop-at-preserved
unfolding with_elements
loop-at-preserved c =
    let place = c.loop-at.at in
    let stack = c.args.stack.now in
    let len = c.span.inside.len in
    let items = reverse (take len (drop c.args.below stack)) in
    let same : len ≡ c.args.span.len = ap (λ (s : PartValue). s.len) c.span.view_is in
    let held : c.args.below + len ≤ length stack = omega (arith, same, c.requires) in
    let same_object = c.again.ensures in
    let found : slice_get stack (c.args.below + (len - 1 - place)) ≡ Some c.again.result = sym c.at.ensures
    ∙ (ap option_copied c.in-Some.is ∙ ap Some (sym same_object)) in
    ap (λ s. with_elements s c.args.span (place + 1) (drop (place + 1) items)) c.put.ensures
    ∙ (sym (ap (with_elements c.loop-at.self c.args.span place)
    (next_operand stack c.args.below len place c.again.result held c.loop-at-test.true found))
    ∙ c.loop-at.invariant)
