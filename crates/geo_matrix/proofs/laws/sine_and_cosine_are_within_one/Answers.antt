use Rattle.geo_matrix.proofs.SineLemmas.{sine_bound, cosine_bound}
use Rattle.geo_matrix.proofs.laws.sine_and_cosine_are_within_one.Goals as goal

pub returns-clause-sine : goal.returns-clause-sine
returns-clause-sine c = sine_bound

pub returns-clause-cosine : goal.returns-clause-cosine
returns-clause-cosine c = cosine_bound
