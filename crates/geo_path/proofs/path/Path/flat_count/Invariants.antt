use Rattle.std.proofs.Common.{◌≡◌, ◌*◌, ◌≤◌, take, length}
use Rattle.std.specs.List.{sum_by}
use Rattle.geo_path.specs.Path.{subpath_count}
use Rattle.geo_path.specs.Flat.{flat}
use Rattle.geo_path.proofs.path.Path.flat_count.Given as goal

-- the points of the subpaths so far
abbrev pub invariant-loop-subpath : goal.invariant-loop-subpath
invariant-loop-subpath l = record {
  so_far : l.points ≡ sum_by (λ s. length (flat s).points) (take l.subpath-index l.self.before);
  few : l.points ≤ 22 * sum_by subpath_count (take l.subpath-index l.self.before);
}
