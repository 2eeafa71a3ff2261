use Rattle.geo_path.proofs.FlatLemmas.{kept_near}
use Rattle.geo_path.proofs.subpath.Subpath.current.Goals as goal

pub returns-else-self-clause-near : goal.returns-else-self-clause-near
returns-else-self-clause-near c = kept_near _ _ c.self.invariant
