use Rattle.cache_core.proofs.Journal.{old_or_reserved}
use Rattle.cache_core.proofs.laws.named_is_old_or_reserved_once.Goals as goal

pub returns : goal.returns
returns c = old_or_reserved
