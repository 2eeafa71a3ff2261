use Rattle.page_model.proofs.Windings.{turned_round}
use Rattle.page_model.proofs.laws.turned_edges_cancel.Goals as goal

pub returns : goal.returns
returns c = turned_round
