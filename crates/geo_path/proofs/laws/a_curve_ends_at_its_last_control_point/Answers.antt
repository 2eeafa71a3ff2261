use Rattle.std.proofs.Common.{None}
use Rattle.geo_path.proofs.EndLemmas.{curve_end}
use Rattle.geo_path.proofs.laws.a_curve_ends_at_its_last_control_point.Goals as goal

pub returns : goal.returns
returns c = curve_end None
