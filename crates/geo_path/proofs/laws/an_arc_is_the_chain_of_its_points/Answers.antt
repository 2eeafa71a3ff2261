use Rattle.std.proofs.Common.{ap, ◌∷◌}
use Rattle.geo_path.proofs.ChainLemmas.{chain_flat, points_behind}
use Rattle.geo_path.proofs.laws.an_arc_is_the_chain_of_its_points.Goals as goal

pub returns-clause-alone : goal.returns-clause-alone
returns-clause-alone c = chain_flat

pub returns-clause-behind : goal.returns-clause-behind
returns-clause-behind c = λ s points. ap (λ rest. s.start ∷ rest) (points_behind s.start s.segments points)
