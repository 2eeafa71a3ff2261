use Rattle.std.proofs.Common.{◌≡◌, ◌≤◌, ◌+◌, [], length, take, reverse}
use Rattle.ps_data_ops.specs.Dictionaries.{entered}
use Rattle.ps_data_ops.proofs.pairs.entries_of.Given as goal

-- what is left to be entered leads to the same entries
abbrev pub invariant-loop-left : goal.invariant-loop-left
invariant-loop-left l = record {
  held : l.left ≤ length l.stack;
  small : length l.entries + l.left ≤ 500;
  same :
      entered l.fn.store l.entries (reverse (take l.left l.stack))
      ≡ entered l.fn.store [] (reverse (take l.len l.stack));
  store : l.store ≡ l.fn.store;
}

abbrev pub decreases-loop-left : goal.decreases-loop-left
decreases-loop-left l = l.left
