use Rattle.std.proofs.Common.{rules}
use Rattle.geo_fill.specs.Code.WalkSteps.{line_place}
use Rattle.geo_fill.proofs.edge.place_at.Goals as goal

pub returns-clause-value : goal.returns-clause-value
unfolding line_place
returns-clause-value c = search rules
