use Rattle.geo_matrix.proofs.ProductLemmas.{identity_first, identity_then}
use Rattle.geo_matrix.proofs.laws.identity_changes_no_matrix.Goals as goal

pub returns-clause-first : goal.returns-clause-first
returns-clause-first c = identity_first

pub returns-clause-then : goal.returns-clause-then
returns-clause-then c = identity_then
