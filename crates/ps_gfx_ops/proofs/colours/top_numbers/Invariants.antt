use Rattle.std.proofs.Common.{◌≡◌, ◌≤◌, ◌+◌, length, take, reverse}
use Rattle.ps_gfx_ops.specs.Points.{numbers_or_type}
use Rattle.ps_gfx_ops.proofs.TopNumbers.{after_found}
use Rattle.ps_gfx_ops.proofs.colours.top_numbers.Given as goal

-- how many operands are left
abbrev pub decreases-loop-left : goal.decreases-loop-left
decreases-loop-left l = l.left

-- the numbers so far, and those of the operands that are left, are the whole
abbrev pub invariant-loop-left : goal.invariant-loop-left
invariant-loop-left l = record {
  so_far : after_found l.numbers (numbers_or_type (reverse (take l.left l.stack)))
      ≡ numbers_or_type (reverse (take l.count l.stack));
  each : length l.numbers + l.left ≡ l.count;
  enough : l.count ≤ length l.stack;
}
