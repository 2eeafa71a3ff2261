use Rattle.page_model.proofs.Windings.{shared_edge, once_nonzero, once_even_odd}
use Rattle.page_model.proofs.laws.shared_edges_paint_once.Goals as goal

pub returns-clause-sum : goal.returns-clause-sum
returns-clause-sum c = shared_edge

pub returns-clause-nonzero : goal.returns-clause-nonzero
returns-clause-nonzero c = once_nonzero

pub returns-clause-even_odd : goal.returns-clause-even_odd
returns-clause-even_odd c = once_even_odd
