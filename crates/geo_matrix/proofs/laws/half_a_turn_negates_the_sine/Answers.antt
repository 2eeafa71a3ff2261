use Rattle.geo_matrix.proofs.SineLemmas.{half_turn}
use Rattle.geo_matrix.proofs.laws.half_a_turn_negates_the_sine.Goals as goal

pub returns : goal.returns
returns c = half_turn
