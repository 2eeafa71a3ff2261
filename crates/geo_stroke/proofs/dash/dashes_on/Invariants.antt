use Rattle.std.proofs.Common.{◌≡◌, ◌++◌}
use Rattle.geo_stroke.specs.Dash.{dashes_by}
use Rattle.geo_stroke.proofs.DashLemmas.{later}
use Rattle.geo_stroke.proofs.dash.dashes_on.Given as goal

-- the dashes so far, and those of the cycles that are left, are all of them
abbrev pub invariant-loop-k : goal.invariant-loop-k
invariant-loop-k l = dashes_by l.line.phase l.line.total l.dashes ≡ l.list.items
    ++ later l.line.phase l.line.total l.dashes l.k
