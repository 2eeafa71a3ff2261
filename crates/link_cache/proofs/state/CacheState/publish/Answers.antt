-- What a publication claims follows from its step.
use Rattle.cache_core.specs.Steps.{is_legal}
use Rattle.cache_core.specs.declared.step.Step.TheVariants.{Publish}
use Rattle.link_cache.proofs.Claiming.{publish_own, stepped_others}
use Rattle.link_cache.proofs.state.CacheState.publish.Goals as goal

pub returns-clause-own : goal.returns-clause-own
returns-clause-own g c =
    publish_own c.args.self.now c.hand_in.new.self c.args.order.seat c.args.order.res c.hand_in.ensures.step

pub returns-clause-others : goal.returns-clause-others
returns-clause-others g c =
    let order = c.args.order in
    stepped_others (is_legal c.args.self.now.core (Publish order.seat order.res)) c.args.self.now c.hand_in.new.self
    (Publish order.seat order.res) c.hand_in.ensures.step
