use Rattle.std.proofs.Common.{◌≡◌, ◌≤◌, take}
use Rattle.gfx_state.specs.Points.{all_points}
use Rattle.gfx_state.proofs.points.shape_points_up_to.Given as goal

-- the points of the shapes so far
abbrev pub invariant-loop-shape : goal.invariant-loop-shape
invariant-loop-shape l = record {
  so_far : l.count ≡ all_points (take l.shape-index l.shapes);
  within : l.count ≤ l.most;
}
