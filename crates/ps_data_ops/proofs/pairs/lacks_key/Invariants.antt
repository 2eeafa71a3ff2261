use Rattle.std.proofs.Common.{◌≡◌, ◌≤◌, length, take, reverse}
use Rattle.ps_data_ops.specs.Dictionaries.{lacks_key}
use Rattle.ps_data_ops.proofs.pairs.lacks_key.Given as goal

-- the operands so far that stand where keys belong are keys
abbrev pub invariant-loop-left : goal.invariant-loop-left
invariant-loop-left l =
    (l.left ≤ length l.stack)
    × (lacks_key l.store (reverse (take l.left l.stack)) ≡ lacks_key l.store (reverse (take l.len l.stack)))

abbrev pub decreases-loop-left : goal.decreases-loop-left
decreases-loop-left l = l.left
