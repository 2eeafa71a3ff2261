use Rattle.geo_path.proofs.EndLemmas.{flat_end}
use Rattle.geo_path.proofs.laws.flattening_keeps_the_ends.Goals as goal

pub returns-clause-end : goal.returns-clause-end
returns-clause-end c = λ s. flat_end s.start s.segments
