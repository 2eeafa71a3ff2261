use Rattle.std.proofs.Common.{◌≡◌, take}
use Rattle.geo_path.proofs.parts.Parts.duplicate.Given as goal

-- the subpaths so far are there
abbrev pub invariant-loop-subpath : goal.invariant-loop-subpath
invariant-loop-subpath l = l.before.items ≡ take l.subpath-index l.self.before
