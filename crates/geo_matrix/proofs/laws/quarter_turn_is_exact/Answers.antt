use Rattle.std.proofs.Common.{refl}
use Rattle.press_nums.specs.Rounding.{div_round}
use Rattle.geo_matrix.specs.Sine.{sine_series, cosine_series}
use Rattle.geo_matrix.proofs.laws.quarter_turn_is_exact.Goals as goal

pub returns : goal.returns
unfolding div_round sine_series cosine_series
returns c = refl
