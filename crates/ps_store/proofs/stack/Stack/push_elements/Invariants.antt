use Rattle.std.proofs.Common.{◌≡◌, ◌+◌, ◌++◌, length, map, reverse}
use Rattle.std.specs.List.{range_with_len}
use Rattle.ps_store.specs.Store.{element}
use Rattle.ps_store.proofs.stack.Stack.push_elements.Given as goal

-- the elements so far stand on the operands
abbrev pub invariant-loop-at : goal.invariant-loop-at
invariant-loop-at l =
    (l.self ≡ reverse (map (element l.store l.span) (range_with_len 0 l.at)) ++ l.fn.self)
    × (length l.self ≡ length l.fn.self + l.at)
