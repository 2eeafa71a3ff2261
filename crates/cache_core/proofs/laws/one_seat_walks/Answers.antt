use Rattle.cache_core.proofs.Walks.{walks}
use Rattle.cache_core.proofs.laws.one_seat_walks.Goals as goal

pub returns : goal.returns
returns c = walks
