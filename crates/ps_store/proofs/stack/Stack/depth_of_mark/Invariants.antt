use Rattle.std.proofs.Common.{◌≡◌, drop}
use Rattle.std.specs.List.{position_from}
use Rattle.ps_store.specs.Stack.{is_mark}
use Rattle.ps_store.proofs.stack.Stack.depth_of_mark.Given as goal

-- no mark stands among the operands that were passed
abbrev pub invariant-loop-depth : goal.invariant-loop-depth
invariant-loop-depth l = position_from is_mark 0 l.self ≡ position_from is_mark l.depth (drop l.depth l.self)
