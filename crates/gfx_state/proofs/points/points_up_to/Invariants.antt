use Rattle.std.proofs.Common.{◌≡◌, ◌≤◌, length, take, sum_by}
use Rattle.gfx_state.proofs.points.points_up_to.Given as goal

-- the points of the rings so far
abbrev pub invariant-loop-ring : goal.invariant-loop-ring
invariant-loop-ring l = record {
  so_far : l.count ≡ sum_by length (take l.ring-index l.rings);
  within : l.count ≤ l.most;
}
