-- What the call claims follows from its step.
use Rattle.link_cache.proofs.Claiming.{clear_own, clear_others}
use Rattle.link_cache.proofs.state.CacheState.clear.Goals as goal

pub returns-clause-own : goal.returns-clause-own
returns-clause-own g c = clear_own c.args.self.now c.end_claim.new.self c.args.seat c.end_claim.ensures

pub returns-clause-others : goal.returns-clause-others
returns-clause-others g c = clear_others c.args.self.now c.end_claim.new.self c.args.seat c.end_claim.ensures
