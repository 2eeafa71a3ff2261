use Rattle.std.proofs.Common.{◌≡◌, drop, take, reverse}
use Rattle.ps_store.specs.Gathering.{with_elements}
use Rattle.ps_store.proofs.store.Store.put_operands.Given as goal

-- what is left to be written leads to the same store
abbrev pub invariant-loop-at : goal.invariant-loop-at
invariant-loop-at l =
    let items = reverse (take l.len (drop l.below l.stack)) in
    with_elements l.self l.span l.at (drop l.at items) ≡ with_elements l.fn.self l.span 0 items
