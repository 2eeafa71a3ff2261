use Rattle.std.proofs.Common.{◌≡◌}
use Rattle.std.specs.Result.{result_err}
use Rattle.geo_path.specs.Code.Points.{points_from}
use Rattle.geo_path.proofs.arc.Arc.check.Given as goal

-- the points left have the first refusal of all
abbrev pub invariant-loop-i : goal.invariant-loop-i
invariant-loop-i l = result_err (points_from l.self.circle l.self.angles l.self.room l.i)
    ≡ result_err (points_from l.self.circle l.self.angles l.self.room 0)
