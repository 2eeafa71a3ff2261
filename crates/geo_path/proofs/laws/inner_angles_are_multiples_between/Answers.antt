use Rattle.geo_path.proofs.AngleLemmas.{all_between}
use Rattle.geo_path.proofs.laws.inner_angles_are_multiples_between.Goals as goal

pub returns : goal.returns
returns c = all_between
