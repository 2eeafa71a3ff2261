use Rattle.cache_core.proofs.Journal.{published_once}
use Rattle.cache_core.proofs.laws.none_is_published_twice.Goals as goal

pub returns : goal.returns
returns c = published_once
