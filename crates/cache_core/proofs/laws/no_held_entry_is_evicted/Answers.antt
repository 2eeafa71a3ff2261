use Rattle.cache_core.proofs.Journal.{evicts_unheld}
use Rattle.cache_core.proofs.laws.no_held_entry_is_evicted.Goals as goal

pub returns : goal.returns
returns c = evicts_unheld
