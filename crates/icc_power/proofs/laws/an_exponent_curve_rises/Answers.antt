use Rattle.icc_power.proofs.Rising.{exponent_law}
use Rattle.icc_power.proofs.laws.an_exponent_curve_rises.Goals as goal

pub returns : goal.returns
returns c = exponent_law
