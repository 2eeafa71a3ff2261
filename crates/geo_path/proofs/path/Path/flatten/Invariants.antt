use Rattle.std.proofs.Common.{◌≡◌, map, take}
use Rattle.geo_path.specs.Flat.{flat}
use Rattle.geo_path.proofs.path.Path.flatten.Given as goal

-- the subpaths so far are flattened
abbrev pub invariant-loop-subpath : goal.invariant-loop-subpath
invariant-loop-subpath l = l.lines ≡ map flat (take l.subpath-index l.self.before)
