use Rattle.std.proofs.Common.{◌≡◌, ◌∙◌, ap, length}
use Rattle.icc_tables.proofs.Stored.{nodes_count}
use Rattle.icc_model_tests.proofs.lattices.nodes.Goals as goal

pub returns-clause-count : goal.returns-clause-count
returns-clause-count c = ap length c.new-2.ensures.value ∙ nodes_count _ _ _ _
